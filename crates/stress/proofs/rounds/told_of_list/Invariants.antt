use Rattle.std.proofs.Common.{◌≡◌, ◌≤◌, ℕ, length, vec_capacity}
use Rattle.std.specs.Prelude.{Result}
use Rattle.replica.specs.declared.refusals.StoreRefused.{StoreRefused}
use Rattle.store.specs.declared.answers.Answer.{Answer}
use Rattle.stress.specs.declared.lines.AnsweredCall.{AnsweredCall}
use Rattle.stress.specs.Playing.{update_said}
use Rattle.stress.proofs.EachCall.{BelongSo, IsNotedCall}
use Rattle.stress.proofs.rounds.told_of_list.Given as goal

abbrev pub invariant-loop-number : goal.invariant-loop-number
invariant-loop-number l =
    BelongSo (IsNotedCall l.round.first) l.number l.round.calls.now l.told.items
    × BelongSo (λ (j : ℕ) (a : Result Answer StoreRefused) (t : AnsweredCall). t.said ≡ update_said a) l.number l.answers l.told.items × (length l.answers ≤ vec_capacity l.told)

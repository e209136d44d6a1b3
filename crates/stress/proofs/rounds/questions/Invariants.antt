use Rattle.std.proofs.Common.{◌≤◌, ℕ, length, vec_capacity}
use Rattle.store_steps.specs.declared.steps.Question.{Question}
use Rattle.stress.specs.declared.calls.ScriptCall.{ScriptCall}
use Rattle.stress.specs.Teams.{IsQuestion}
use Rattle.stress.proofs.EachCall.{BelongSo}
use Rattle.stress.proofs.rounds.questions.Given as goal

abbrev pub invariant-loop-number : goal.invariant-loop-number
invariant-loop-number l =
    BelongSo (λ (j : ℕ) (c : ScriptCall) (q : Question). IsQuestion c q) l.number l.calls l.all.items × (length l.calls ≤ vec_capacity l.all)

use Rattle.std.proofs.Common.{◌≡◌, ◌≤◌, ℕ, length, Some, vec_capacity}
use Rattle.arrayvec.specs.ArrayVec.{ArrayVec}
use Rattle.text.specs.Digits.{field_bytes}
use Rattle.stress.specs.declared.calls.ScriptCall.{ScriptCall}
use Rattle.stress.proofs.EachCall.{BelongSo}
use Rattle.stress.proofs.rounds.spelled.Given as goal

abbrev pub invariant-loop-number : goal.invariant-loop-number
invariant-loop-number l =
    BelongSo (λ (j : ℕ) (c : ScriptCall) (b : ArrayVec ℕ). field_bytes c.digits.now ≡ Some b.items) l.number l.calls l.all.items × (length l.calls ≤ vec_capacity l.all)

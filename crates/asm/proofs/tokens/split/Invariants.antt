use Rattle.std.proofs.Common.{◌≡◌, ℕ, ◌<◌, false, get_or}
use Rattle.asm.specs.Tokens.{stops}
use Rattle.asm.proofs.tokens.split.Given as goal

abbrev pub invariant-loop-i : goal.invariant-loop-i
invariant-loop-i l = (k : ℕ) → k < l.i → stops l.stop (get_or l.text k 0) ≡ false

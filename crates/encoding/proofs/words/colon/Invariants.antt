use Rattle.std.proofs.Common.{◌≡◌, drop, ◌==◌}
use Rattle.std.specs.List.{position_from}
use Rattle.encoding.proofs.words.colon.Given as goal

abbrev pub invariant-loop-i : goal.invariant-loop-i
invariant-loop-i l = position_from (λ b. b == 58) l.i (drop l.i l.word) ≡ position_from (λ b. b == 58) 0 l.word

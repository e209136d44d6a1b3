use Rattle.std.proofs.Common.{◌≡◌, drop, ◌==◌}
use Rattle.std.specs.List.{position_from}
use Rattle.text.proofs.fields.index_of.Given as goal

abbrev pub invariant-loop-k : goal.invariant-loop-k
invariant-loop-k l = position_from (λ b. b == l.wanted) l.k (drop l.k l.bytes) ≡ position_from (λ b. b == l.wanted) 0 l.bytes

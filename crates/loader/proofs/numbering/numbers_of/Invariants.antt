use Rattle.std.proofs.Common.{◌≤◌, length, drop}
use Rattle.loader.specs.Numbering.{IsNumberingFrom}
use Rattle.loader.proofs.numbering.numbers_of.Given as goal

abbrev pub invariant-loop-k : goal.invariant-loop-k
invariant-loop-k l = (l.k ≤ length l.programs) × IsNumberingFrom l.k l.numbers (drop l.k l.programs)

abbrev pub decreases-loop-k : goal.decreases-loop-k
decreases-loop-k l = l.k

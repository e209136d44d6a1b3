use Rattle.std.proofs.Common.{drop}
use Rattle.std.specs.List.{AllByRecursion}
use Rattle.asm.specs.Words.{IsSpelled, IsSaid}
use Rattle.asm.proofs.words.spelling.Given as goal

abbrev pub invariant-loop-spelled : goal.invariant-loop-spelled
invariant-loop-spelled l = AllByRecursion (IsSpelled (λ text. text.now)) (drop l.spelled-index l.rows) × IsSaid (drop l.spelled-index l.rows) l.mnemonic

use Rattle.std.proofs.Common.{◌≡◌, drop}
use Rattle.std.specs.List.{AllByRecursion}
use Rattle.asm.specs.Words.{meaning_in, HasWord}
use Rattle.asm.proofs.words.look_up.Given as goal

abbrev pub invariant-loop-spelled : goal.invariant-loop-spelled
invariant-loop-spelled l =
    (meaning_in (λ text. text.now) (drop l.spelled-index l.rows) l.word ≡ meaning_in (λ text. text.now) l.rows l.word)
    × AllByRecursion (λ row. HasWord row.1) (drop l.spelled-index l.rows)

use Rattle.std.proofs.Common.{◌≡◌, ℕ, arith}
use Rattle.std.specs.Prelude.{◌↔◌}
use Rattle.std.specs.Int.RustNames.{bit_and}
use Rattle.std.proofs.lemmas.Nat.Bits.{bit_at_and, bit_at-lt}
use Rattle.regkind.specs.declared.frames.Cell.{Cell}
use Rattle.regkind.specs.declared.frames.Cell.TheVariants.{Marks, Spilled}
use Rattle.regkind.specs.Frames.{CoversCell, CoversMarks}
use Rattle.regkind.proofs.frames.common_cell.Goals as goal

-- what both mark is what each marks
both : (a : Cell) (m n : ℕ) → CoversMarks a (Marks (bit_and m n)) ↔ (CoversMarks a (Marks m) × CoversMarks a (Marks n))
both a m n = (
  λ h. (λ i lt one. omega (arith, h i lt one, bit_at_and m n i, bit_at-lt m i, bit_at-lt n i), λ i lt one. omega (arith, h i lt one, bit_at_and m n i, bit_at-lt m i, bit_at-lt n i)),
  λ h i lt one. omega (arith, h.0 i lt one, h.1 i lt one, bit_at_and m n i),
)

meet : (a : Cell) (m n : ℕ) → CoversCell a (Marks (bit_and m n)) ↔ (CoversCell a (Marks m) × CoversCell a (Marks n))
meet (Marks k) m n = (
  λ h. let g = (both (Marks k) m n).0 h.0 in ((g.0, tt), (g.1, tt)),
  λ h. ((both (Marks k) m n).1 (h.0.0, h.1.0), tt),
)
meet (Spilled k) m n = (
  λ h. let bad : Marks (bit_and m n) ≡ Spilled k = h.1 in absurd cc,
  λ h. let bad : Marks m ≡ Spilled k = h.0.1 in absurd cc,
)

pub returns-in-Marks-Marks-clause-meet : goal.returns-in-Marks-Marks-clause-meet
returns-in-Marks-Marks-clause-meet c = λ a. rw (c.in-Marks-Marks.is-0, c.in-Marks-Marks.is-1) (meet a c.in-Marks-Marks.a c.in-Marks-Marks.b)

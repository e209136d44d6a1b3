use Rattle.std.proofs.Common.{ℕ, ◌/◌, ◌<◌, arith}
use Rattle.std.specs.Prelude.{◌↔◌}
use Rattle.regkind.specs.declared.frames.Kind.{Kind}
use Rattle.regkind.specs.declared.frames.Cell.{Cell}
use Rattle.regkind.specs.Frames.{Frame, Covers, CoversKind, CoversCell, kind, cell}
use Rattle.regkind.proofs.Cells.{cells_from_marks, marks_from_cells}
use Rattle.regkind.proofs.frames.join.Goals as goal

-- what is covered, cell by cell
cells_of : (a b : Frame) → Covers a b → (c : ℕ) → c < 64 → CoversCell (cell a c) (cell b c)
cells_of a b h c lt = (cells_from_marks a b c lt h.marks, h.pointers c lt)

whole : (a b : Frame) → ((r : ℕ) → r < 11 → CoversKind (kind a r) (kind b r)) → ((c : ℕ) → c < 64 → CoversCell (cell a c) (cell b c)) → Covers a b
whole a b kinds cells = record { kinds = kinds; marks = λ k lt m. marks_from_cells a b k (cells (k / 8) (omega arith)).0 m; pointers = λ c lt. (cells c lt).1 }

-- register by register and cell by cell, so for the whole
meet : (f x y : Frame) → ((r : ℕ) → r < 11 → (a : Kind) → CoversKind a (kind f r) ↔ (CoversKind a (kind x r) × CoversKind a (kind y r)))
    → ((c : ℕ) → c < 64 → (a : Cell) → CoversCell a (cell f c) ↔ (CoversCell a (cell x c) × CoversCell a (cell y c))) → (a : Frame) → Covers a f ↔ (Covers a x × Covers a y)
meet f x y kinds cells a = (
  λ h. (
    whole a x (λ r lt. ((kinds r lt _).0 (h.kinds r lt)).0) (λ c lt. ((cells c lt _).0 (cells_of a f h c lt)).0),
    whole a y (λ r lt. ((kinds r lt _).0 (h.kinds r lt)).1) (λ c lt. ((cells c lt _).0 (cells_of a f h c lt)).1),
  ),
  λ h. whole a f (λ r lt. (kinds r lt _).1 (h.0.kinds r lt, h.1.kinds r lt)) (λ c lt. (cells c lt _).1 (cells_of a x h.0 c lt, cells_of a y h.1 c lt)),
)

pub returns-clause-meet : goal.returns-clause-meet
returns-clause-meet c = rw (← c.x.view_is, ← c.y.view_is) (meet _ _ _ c.common_kinds-kinds.ensures.meet c.common_cells-cells.ensures.meet)

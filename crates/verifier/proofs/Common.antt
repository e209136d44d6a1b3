-- What two frames have in common, as it is computed.
use Rattle.std.proofs.Common.{◌≡◌, ℕ, zero, suc, ◌<◌, ◌≤◌, Bool, true, false, cond, refl, sym, ap, ◌∙◌, inl, inr, ⊎_elim, arith, subst}
use Rattle.std.specs.Prelude.{◌↔◌, ◌==◌, ℤ}
use Rattle.std.specs.Ordering.{int_eq}
use Rattle.std.proofs.lemmas.Bool.{false≢true, and_parts, and_from, cases_eq}
use Rattle.std.proofs.lemmas.Bool.Decides.{Decides-int_eq, Decides-eqb}
use Rattle.regkind.specs.declared.frames.Kind.{Kind}
use Rattle.regkind.specs.declared.frames.Kind.TheVariants.{Unreadable, Scalar, Stack, Arg, Map, Value, ValueOrNull}
use Rattle.regkind.specs.Frames.{Frame, IsFrame, Covers, CoversKind, kind}
use Rattle.regkind.proofs.Export.{kind-with_kind_same, kind-with_kind_other, IsFrame-with_kind, IsFrame-blank, cell-with_cell_same, cell-with_cell_other, IsFrame-with_cell, cells_from_marks, marks_from_cells}
use Rattle.verifier.specs.Joined.{is_same, common_kind, with_common_kinds, common}
use Rattle.std.proofs.Common.{◌/◌}
use Rattle.std.specs.Int.RustNames.{bit_and}
use Rattle.std.proofs.lemmas.Nat.{and_le_l}
use Rattle.std.proofs.lemmas.Nat.Bits.{bit_at_and, bit_at-lt, bit_at-zero}
use Rattle.regkind.specs.declared.frames.Cell.{Cell}
use Rattle.regkind.specs.declared.frames.Cell.TheVariants.{Marks, Spilled}
use Rattle.regkind.specs.Frames.{IsCell, CoversCell, CoversMarks, cell}
use Rattle.verifier.specs.Joined.{common_cell, with_common_cells}

-- ---- kinds

pub same_int : (a b : ℤ) → int_eq a b ≡ true → a ≡ b
same_int a b e = (Decides-int_eq a b).0 e

pub int_same : (a : ℤ) → int_eq a a ≡ true
int_same a = (Decides-int_eq a a).1 refl

same_nat : (a b : ℕ) → a == b ≡ true → a ≡ b
same_nat a b e = (Decides-eqb a b).0 e

nat_same : (a : ℕ) → a == a ≡ true
nat_same a = (Decides-eqb a a).1 refl

from_is_same : (a b : Kind) → is_same a b ≡ true → a ≡ b
from_is_same Unreadable Unreadable e = refl
from_is_same Scalar Scalar e = refl
from_is_same (Stack o) (Stack d) e = ap Stack (same_int o d e)
from_is_same (Arg o) (Arg d) e = ap Arg (same_int o d e)
from_is_same (Map m) (Map n) e = ap Map (same_nat m n e)
from_is_same (Value m o) (Value n d) e = let b = and_parts (m == n) (int_eq o d) e in ap (λ x. Value x o) (same_nat m n b.0) ∙ ap (λ x. Value n x) (same_int o d b.1)
from_is_same (ValueOrNull m) (ValueOrNull n) e = ap ValueOrNull (same_nat m n e)
from_is_same a b e = absurd (false≢true e)

is_same_self : (a : Kind) → is_same a a ≡ true
is_same_self Unreadable = refl
is_same_self Scalar = refl
is_same_self (Stack o) = int_same o
is_same_self (Arg o) = int_same o
is_same_self (Map m) = nat_same m
is_same_self (Value m o) = and_from (m == m) (int_eq o o) (nat_same m) (int_same o)
is_same_self (ValueOrNull m) = nat_same m

pub common_kind_meets : (a b c : Kind) → CoversKind c (common_kind a b) ↔ (CoversKind c a × CoversKind c b)
common_kind_meets a b c = by (is_same a b) refl
  where
    by : (s : Bool) → is_same a b ≡ s → CoversKind c (common_kind a b) ↔ (CoversKind c a × CoversKind c b)
    by true e =
        let same = from_is_same a b e in
        let is : common_kind a b ≡ a = ap (λ s. cond s a Unreadable) e in
        (λ h. let g = subst (CoversKind c) is h in (g, subst (CoversKind c) same g), λ h. subst (CoversKind c) (sym is) h.0)
    by false e =
        let is : common_kind a b ≡ Unreadable = ap (λ s. cond s a Unreadable) e in
        (λ h. let g = ⊎_elim (λ (u : c ≡ Unreadable). u) (λ u. u) (subst (CoversKind c) is h) in (inl g, inl g), λ h. inl (apart h.0 h.1))
      where
        apart : CoversKind c a → CoversKind c b → c ≡ Unreadable
        apart (inl u) h = u
        apart (inr u) (inl w) = w
        apart (inr u) (inr w) = let eq : a ≡ b = sym u ∙ w in let yes : is_same a b ≡ true = subst (λ x. is_same a x ≡ true) eq (is_same_self a) in absurd (false≢true (sym e ∙ yes))

-- ---- frames

kinds_frame : (a b : Frame) (n : ℕ) → IsFrame (with_common_kinds a b n)
unfolding with_common_kinds
kinds_frame a b zero = IsFrame-blank
kinds_frame a b (suc r) = IsFrame-with_kind (with_common_kinds a b r) r _ (kinds_frame a b r)

kinds_kind : (a b : Frame) (n r : ℕ) → n ≤ 11 → r < n → kind (with_common_kinds a b n) r ≡ common_kind (kind a r) (kind b r)
unfolding with_common_kinds
kinds_kind a b zero r le lt = absurd (omega arith)
kinds_kind a b (suc q) r le lt = ⊎_elim
    (λ e. subst (λ x. kind (with_common_kinds a b (suc q)) x ≡ common_kind (kind a x) (kind b x)) (sym e) (kind-with_kind_same (with_common_kinds a b q) q _ (kinds_frame a b q) (omega arith)))
    (λ ne. kind-with_kind_other (with_common_kinds a b q) q r _ ne ∙ kinds_kind a b q r (omega arith) (omega arith))
    (cases_eq r q)

-- ---- cells

-- what is in common is a cell
common_is : (a b : Cell) → IsCell a → IsCell b → IsCell (common_cell a b)
common_is (Marks m) (Marks n) h g = omega (arith, and_le_l m n)
common_is (Marks m) (Spilled k) h g = omega arith
common_is (Spilled k) (Marks n) h g = omega arith
common_is (Spilled k) (Spilled l) h g = by (is_same k l)
  where
    by : (s : Bool) → IsCell (cond s (Spilled k) (Marks 0))
    by true = h
    by false = omega arith

no_marks : (c : Cell) → CoversMarks c (Marks 0) → (x : Cell) → CoversMarks c x
no_marks c h x i lt one = let bad = h i lt one in absurd (omega (arith, bad, bit_at-zero i))

-- a cell without marks on the right, and one whose marks are those of a pointer
common_cell_meets : (a b c : Cell) → CoversCell c (common_cell a b) ↔ (CoversCell c a × CoversCell c b)
common_cell_meets (Marks m) (Marks n) (Marks k) = (
  λ h. ((λ i lt one. omega (arith, h.0 i lt one, bit_at_and m n i, bit_at-lt m i, bit_at-lt n i), tt), (λ i lt one. omega (arith, h.0 i lt one, bit_at_and m n i, bit_at-lt m i, bit_at-lt n i), tt)),
  λ h. (λ i lt one. omega (arith, h.0.0 i lt one, h.1.0 i lt one, bit_at_and m n i), tt),
)
common_cell_meets (Marks m) (Marks n) (Spilled k) = (λ h. let bad : Marks (bit_and m n) ≡ Spilled k = h.1 in absurd cc, λ h. let bad : Marks m ≡ Spilled k = h.0.1 in absurd cc)
common_cell_meets (Marks m) (Spilled l) (Marks k) = (λ h. ((no_marks (Marks k) h.0 (Marks m), tt), (h.0, tt)), λ h. (h.1.0, tt))
common_cell_meets (Marks m) (Spilled l) (Spilled k) = (λ h. let bad : Marks 0 ≡ Spilled k = h.1 in absurd cc, λ h. let bad : Marks m ≡ Spilled k = h.0.1 in absurd cc)
common_cell_meets (Spilled l) (Marks m) (Marks k) = (λ h. ((h.0, tt), (no_marks (Marks k) h.0 (Marks m), tt)), λ h. (h.0.0, tt))
common_cell_meets (Spilled l) (Marks m) (Spilled k) = (λ h. let bad : Marks 0 ≡ Spilled k = h.1 in absurd cc, λ h. let bad : Marks m ≡ Spilled k = h.1.1 in absurd cc)
common_cell_meets (Spilled a) (Spilled b) c = by (is_same a b) refl
  where
    by : (s : Bool) → is_same a b ≡ s → CoversCell c (cond s (Spilled a) (Marks 0)) ↔ (CoversCell c (Spilled a) × CoversCell c (Spilled b))
    by true e = let same = ap Spilled (from_is_same a b e) in (λ h. (h, subst (CoversCell c) same h), λ h. h.0)
    by false e = (λ h. (left c h, right c h), λ h. back c h.0 h.1)
      where
        left : (c : Cell) → CoversCell c (Marks 0) → CoversCell c (Spilled a)
        left (Marks k) h = (h.0, tt)
        left (Spilled k) h = let bad : Marks 0 ≡ Spilled k = h.1 in absurd cc

        right : (c : Cell) → CoversCell c (Marks 0) → CoversCell c (Spilled b)
        right (Marks k) h = (h.0, tt)
        right (Spilled k) h = let bad : Marks 0 ≡ Spilled k = h.1 in absurd cc

        back : (c : Cell) → CoversCell c (Spilled a) → CoversCell c (Spilled b) → CoversCell c (Marks 0)
        back (Marks k) h g = (h.0, tt)
        back (Spilled k) h g = let x : Spilled a ≡ Spilled k = h.1 in let y : Spilled b ≡ Spilled k = g.1 in let eq : a ≡ b = cc in let yes : is_same a b ≡ true = subst (λ z. is_same a z ≡ true) eq (is_same_self a) in absurd (false≢true (sym e ∙ yes))

cells_frame : (a b : Frame) (n : ℕ) → IsFrame a → IsFrame b → IsFrame (with_common_cells a b n)
unfolding with_common_cells
cells_frame a b zero fa fb = kinds_frame a b 11
cells_frame a b (suc c) fa fb = IsFrame-with_cell (with_common_cells a b c) c _ (common_is (cell a c) (cell b c) (fa.each c) (fb.each c)) (cells_frame a b c fa fb)

cells_kind : (a b : Frame) (n r : ℕ) → kind (with_common_cells a b n) r ≡ kind (with_common_kinds a b 11) r
unfolding with_common_cells
cells_kind a b zero r = refl
cells_kind a b (suc c) r = cells_kind a b c r

cells_cell : (a b : Frame) (n c : ℕ) → IsFrame a → IsFrame b → n ≤ 64 → c < n → cell (with_common_cells a b n) c ≡ common_cell (cell a c) (cell b c)
unfolding with_common_cells
cells_cell a b zero c fa fb le lt = absurd (omega arith)
cells_cell a b (suc d) c fa fb le lt = ⊎_elim
    (λ e. subst (λ x. cell (with_common_cells a b (suc d)) x ≡ common_cell (cell a x) (cell b x)) (sym e) (cell-with_cell_same (with_common_cells a b d) d _ (cells_frame a b d fa fb) (omega arith)))
    (λ ne. cell-with_cell_other (with_common_cells a b d) d c _ ne ∙ cells_cell a b d c fa fb (omega arith) (omega arith))
    (cases_eq c d)

pub common_frame : (a b : Frame) → IsFrame a → IsFrame b → IsFrame (common a b)
common_frame a b fa fb = cells_frame a b 64 fa fb

common_kinds : (a b : Frame) (r : ℕ) → r < 11 → kind (common a b) r ≡ common_kind (kind a r) (kind b r)
common_kinds a b r lt = cells_kind a b 64 r ∙ kinds_kind a b 11 r (omega arith) lt

-- `common` says what both frames say, and nothing else
pub common_covers : (a b c : Frame) → IsFrame a → IsFrame b → Covers c (common a b) ↔ (Covers c a × Covers c b)
common_covers a b c fa fb = (
  λ h. (
    whole c a (λ r lt. (by_kind r lt (h.kinds r lt)).0) (λ d lt. (by_cell d lt (cells_of c (common a b) h d lt)).0),
    whole c b (λ r lt. (by_kind r lt (h.kinds r lt)).1) (λ d lt. (by_cell d lt (cells_of c (common a b) h d lt)).1),
  ),
  λ h. whole c (common a b)
      (λ r lt. subst (CoversKind (kind c r)) (sym (common_kinds a b r lt)) ((common_kind_meets (kind a r) (kind b r) (kind c r)).1 (h.0.kinds r lt, h.1.kinds r lt)))
      (λ d lt. subst (CoversCell (cell c d)) (sym (cells_cell a b 64 d fa fb (omega arith) lt)) ((common_cell_meets (cell a d) (cell b d) (cell c d)).1 (cells_of c a h.0 d lt, cells_of c b h.1 d lt))),
)
  where
    by_kind : (r : ℕ) → r < 11 → CoversKind (kind c r) (kind (common a b) r) → CoversKind (kind c r) (kind a r) × CoversKind (kind c r) (kind b r)
    by_kind r lt h = (common_kind_meets (kind a r) (kind b r) (kind c r)).0 (subst (CoversKind (kind c r)) (common_kinds a b r lt) h)

    by_cell : (d : ℕ) → d < 64 → CoversCell (cell c d) (cell (common a b) d) → CoversCell (cell c d) (cell a d) × CoversCell (cell c d) (cell b d)
    by_cell d lt h = (common_cell_meets (cell a d) (cell b d) (cell c d)).0 (subst (CoversCell (cell c d)) (cells_cell a b 64 d fa fb (omega arith) lt) h)

    cells_of : (a b : Frame) → Covers a b → (c : ℕ) → c < 64 → CoversCell (cell a c) (cell b c)
    cells_of a b h c lt = (cells_from_marks a b c lt h.marks, h.pointers c lt)

    whole : (a b : Frame) → ((r : ℕ) → r < 11 → CoversKind (kind a r) (kind b r)) → ((c : ℕ) → c < 64 → CoversCell (cell a c) (cell b c)) → Covers a b
    whole a b kinds cells = record { kinds = kinds; marks = λ k lt m. marks_from_cells a b k (cells (k / 8) (omega arith)).0 m; pointers = λ c lt. (cells c lt).1 }

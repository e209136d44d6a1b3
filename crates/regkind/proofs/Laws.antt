-- What is read off a frame after a change, and that changes keep what frames have in common.
use Rattle.std.proofs.Common.{◌≡◌, ◌≢◌, ℕ, zero, suc, ◌+◌, ◌/◌, ◌%◌, ◌<◌, ◌≤◌, ◌==◌, true, false, List, length, refl, sym, ap, ◌∙◌, inl, inr, ⊎_elim, arith, subst}
use Rattle.std.specs.Prelude.{◌↔◌, ◌⊎◌, replicate}
use Rattle.std.specs.Int.{bit_at}
use Rattle.std.proofs.lemmas.Bool.{cases_eq, cases_lt, and_parts, and_from}
use Rattle.std.proofs.lemmas.Nat.Bits.{bit_at-zero}
use Rattle.std.proofs.lemmas.List.{get_or-set_same, get_or-set_other, length-set, get_or-replicate, get_or_past, ext_get_or}
use Rattle.regkind.specs.declared.frames.Kind.{Kind}
use Rattle.regkind.specs.declared.frames.Kind.TheVariants.{Unreadable}
use Rattle.regkind.specs.declared.frames.Cell.{Cell}
use Rattle.regkind.specs.declared.frames.Cell.TheVariants.{Marks, Spilled}
use Rattle.regkind.specs.Frames.{Frame, IsFrame, Covers, CoversKind, CoversCell, CoversPointer, kind, cell, marks_of, mark, all_marked, with_kind, with_cell, with_mark, with_marks, blank_frame, entry_frame}
pub use Rattle.regkind.proofs.Cells.{mark-with_mark_same, mark-with_mark_other, kind-with_mark, IsFrame-with_mark, cells_from_marks, marks_from_cells, same_cell, cell-with_mark_same, cell-with_mark_other, cells_past, cell-with_cell_same, cell-with_cell_other, IsFrame-with_cell}

-- ---- a run of marks

pub kind-with_marks : (f : Frame) (at n r : ℕ) → kind (with_marks f at n) r ≡ kind f r
unfolding with_marks
kind-with_marks f at zero r = refl
kind-with_marks f at (suc n) r = kind-with_mark (with_marks f at n) (at + n) r ∙ kind-with_marks f at n r

pub IsFrame-with_marks : (f : Frame) (at n : ℕ) → IsFrame f → IsFrame (with_marks f at n)
unfolding with_marks
IsFrame-with_marks f at zero frame = frame
IsFrame-with_marks f at (suc n) frame = IsFrame-with_mark (with_marks f at n) (at + n) (IsFrame-with_marks f at n frame)

pub mark-with_marks_outside : (f : Frame) (at n k : ℕ) → (k < at) ⊎ (at + n ≤ k) → mark (with_marks f at n) k ≡ mark f k
unfolding with_marks
mark-with_marks_outside f at zero k out = refl
mark-with_marks_outside f at (suc n) k out =
    let ne : k ≢ at + n = ⊎_elim (λ (lt : k < at). λ e. absurd (omega arith)) (λ (ge : at + suc n ≤ k). λ e. absurd (omega arith)) out in
    let rest : (k < at) ⊎ (at + n ≤ k) = ⊎_elim (λ lt. inl lt) (λ (ge : at + suc n ≤ k). inr (omega arith)) out in
    mark-with_mark_other (with_marks f at n) (at + n) k ne ∙ mark-with_marks_outside f at n k rest

cells-with_marks : (f : Frame) (at n : ℕ) → length (with_marks f at n).cells ≡ length f.cells
unfolding with_marks with_mark
cells-with_marks f at zero = refl
cells-with_marks f at (suc n) = length-set (with_marks f at n).cells ((at + n) / 8) _ ∙ cells-with_marks f at n

-- what is marked by the run, of a frame that has room
pub marked_in_run : (f : Frame) (at n k : ℕ) → length f.cells ≡ 64 → k < 512 → at ≤ k → k < at + n → mark (with_marks f at n) k ≡ true
unfolding with_marks
marked_in_run f at zero k len lt from to = absurd (omega arith)
marked_in_run f at (suc n) k len lt from to = ⊎_elim
    (λ e. rw e (mark-with_mark_same (with_marks f at n) (at + n) (cells-with_marks f at n ∙ len) (omega arith)))
    (λ ne. mark-with_mark_other (with_marks f at n) (at + n) k ne ∙ marked_in_run f at n k len lt from (omega arith))
    (cases_eq k (at + n))

pub mark-with_marks_inside : (f : Frame) (at n k : ℕ) → IsFrame f → k < 512 → at ≤ k → k < at + n → mark (with_marks f at n) k ≡ true
mark-with_marks_inside f at n k frame lt from to = marked_in_run f at n k frame.cells lt from to

-- a byte is marked after the run where it was before, or where the run goes over it
pub mark-with_marks : (f : Frame) (at n k : ℕ) → length f.cells ≡ 64 → k < 512 → (mark (with_marks f at n) k ≡ true) ↔ ((mark f k ≡ true) ⊎ ((at ≤ k) × (k < at + n)))
mark-with_marks f at n k len lt =
    let outside : (k < at) ⊎ (at + n ≤ k) → (mark (with_marks f at n) k ≡ true) ↔ ((mark f k ≡ true) ⊎ ((at ≤ k) × (k < at + n))) =
    λ out.
    let e = mark-with_marks_outside f at n k out in (
      λ m. inl (sym e ∙ m),
      λ s. ⊎_elim (λ m. e ∙ m) (λ (w : (at ≤ k) × (k < at + n)). ⊎_elim (λ (lo : k < at). absurd (omega arith)) (λ (hi : at + n ≤ k). absurd (omega arith)) out) s,
    ) in
    ⊎_elim
    (λ below. outside (inl below))
    (λ from. ⊎_elim
    (λ to. (λ m. inr (from, to), λ s. marked_in_run f at n k len lt from to))
    (λ past. outside (inr past))
    (cases_lt k (at + n)))
    (cases_lt k at)

pub all_marked_each : (f : Frame) (at n : ℕ) → all_marked f at n ≡ true → (k : ℕ) → at ≤ k → k < at + n → mark f k ≡ true
unfolding all_marked
all_marked_each f at zero all k from to = absurd (omega arith)
all_marked_each f at (suc n) all k from to =
    let both = and_parts _ _ all in
    ⊎_elim (λ e. rw e both.1) (λ ne. all_marked_each f at n both.0 k from (omega arith)) (cases_eq k (at + n))

pub all_marked_from : (f : Frame) (at n : ℕ) → ((k : ℕ) → at ≤ k → k < at + n → mark f k ≡ true) → all_marked f at n ≡ true
unfolding all_marked
all_marked_from f at zero each = refl
all_marked_from f at (suc n) each = and_from _ _ (all_marked_from f at n (λ k from to. each k from (omega arith))) (each (at + n) (omega arith) (omega arith))

-- ---- kinds

pub kind-with_kind_same : (f : Frame) (r : ℕ) (k : Kind) → IsFrame f → r < 11 → kind (with_kind f r k) r ≡ k
kind-with_kind_same f r k frame lt = let inside : r < length f.kinds = omega (arith, frame.kinds) in get_or-set_same f.kinds r k Unreadable inside

pub kind-with_kind_other : (f : Frame) (r s : ℕ) (k : Kind) → s ≢ r → kind (with_kind f r k) s ≡ kind f s
kind-with_kind_other f r s k ne = get_or-set_other f.kinds r s k Unreadable ne

pub mark-with_kind : (f : Frame) (r : ℕ) (k : Kind) (j : ℕ) → mark (with_kind f r k) j ≡ mark f j
unfolding mark
mark-with_kind f r k j = refl

pub IsFrame-with_kind : (f : Frame) (r : ℕ) (k : Kind) → IsFrame f → IsFrame (with_kind f r k)
IsFrame-with_kind f r k frame = record { kinds = length-set f.kinds r k ∙ frame.kinds; cells = frame.cells; each = frame.each }

-- ---- the first frames

pub blank_cell : (c : ℕ) → cell blank_frame c ≡ Marks 0
blank_cell c = ⊎_elim
    (λ (lt : c < 64). get_or-replicate 64 c (Marks 0) (Marks 0) lt)
    (λ (ge : 64 ≤ c). get_or_past (replicate 64 (Marks 0)) c (Marks 0) (let n : length (replicate {A = Cell} 64 (Marks 0)) ≤ c = ge in n))
    (cases_lt c 64)

pub mark-blank : (k : ℕ) → mark blank_frame k ≡ false
unfolding mark
mark-blank k = rw (blank_cell (k / 8), bit_at-zero (k % 8)) refl

pub IsFrame-blank : IsFrame blank_frame
IsFrame-blank = record { kinds = refl; cells = refl; each = λ c. rw (blank_cell c) (omega arith) }

pub mark-entry : (k : ℕ) → mark entry_frame k ≡ false
unfolding mark
mark-entry k = mark-blank k

pub IsFrame-entry : IsFrame entry_frame
IsFrame-entry = record { kinds = refl; cells = refl; each = IsFrame-blank.each }

-- ---- what frames have in common

pub covers_kind_trans : (a b c : Kind) → CoversKind a b → CoversKind b c → CoversKind a c
covers_kind_trans a b c (inl e) k = inl e
covers_kind_trans a b c (inr e) (inl k) = inl (e ∙ k)
covers_kind_trans a b c (inr e) (inr k) = inr (e ∙ k)

pub pointer_refl : (a : Cell) → CoversPointer a a
pointer_refl (Marks n) = tt
pointer_refl (Spilled k) = refl

pub pointer_trans : (a b c : Cell) → CoversPointer a b → CoversPointer b c → CoversPointer a c
pointer_trans (Marks n) b c h g = tt
pointer_trans (Spilled k) b c h g = subst (λ x. CoversPointer x c) h g

pub covers_refl : (a : Frame) → Covers a a
covers_refl a = record { kinds = λ r lt. inr refl; marks = λ k lt m. m; pointers = λ c lt. pointer_refl (cell a c) }

pub covers_trans : (a b c : Frame) → Covers a b → Covers b c → Covers a c
covers_trans a b c h k = record {
  kinds = λ r lt. covers_kind_trans (kind a r) (kind b r) (kind c r) (h.kinds r lt) (k.kinds r lt);
  marks = λ n lt m. k.marks n lt (h.marks n lt m);
  pointers = λ d lt. pointer_trans (cell a d) (cell b d) (cell c d) (h.pointers d lt) (k.pointers d lt);
}

same_kind : (a b : Kind) → CoversKind a b → CoversKind b a → a ≡ b
same_kind a b (inr e) k = e
same_kind a b (inl e) (inr k) = sym k
same_kind a b (inl e) (inl k) = e ∙ sym k

-- frames that cover one another are one
pub covers_antisymmetric : (a b : Frame) → IsFrame a → IsFrame b → Covers a b → Covers b a → a ≡ b
covers_antisymmetric a b fa fb h g =
    let kinds : a.kinds ≡ b.kinds = ext_get_or Unreadable a.kinds b.kinds (fa.kinds ∙ sym fb.kinds) (λ r lt. same_kind (kind a r) (kind b r) (h.kinds r (omega (arith, fa.kinds))) (g.kinds r (omega (arith, fa.kinds)))) in
    let cells : a.cells ≡ b.cells = ext_get_or (Marks 0) a.cells b.cells (fa.cells ∙ sym fb.cells) (λ c lt.
    let inside : c < 64 = omega (arith, fa.cells) in
    same_cell (cell a c) (cell b c) (fa.each c) (fb.each c) (cells_from_marks a b c inside h.marks, h.pointers c inside) (cells_from_marks b a c inside g.marks, g.pointers c inside)) in
    ap (λ (x : List Kind). record { kinds = x; cells = a.cells }) kinds ∙ ap (λ (y : List Cell). record { kinds = b.kinds; cells = y }) cells

pub covers-with_kind : (a b : Frame) (r : ℕ) (k l : Kind) → IsFrame a → IsFrame b → Covers a b → CoversKind k l → Covers (with_kind a r k) (with_kind b r l)
covers-with_kind a b r k l fa fb h c = record {
  kinds = λ s lt. ⊎_elim
      (λ e.
      let inside : r < 11 = omega arith in
      let x : kind (with_kind a r k) s ≡ k = ap (kind (with_kind a r k)) e ∙ kind-with_kind_same a r k fa inside in
      let y : kind (with_kind b r l) s ≡ l = ap (kind (with_kind b r l)) e ∙ kind-with_kind_same b r l fb inside in
      subst (λ z. CoversKind z (kind (with_kind b r l) s)) (sym x) (subst (CoversKind k) (sym y) c))
      (λ ne.
      let x : kind (with_kind a r k) s ≡ kind a s = kind-with_kind_other a r s k ne in
      let y : kind (with_kind b r l) s ≡ kind b s = kind-with_kind_other b r s l ne in
      subst (λ z. CoversKind z (kind (with_kind b r l) s)) (sym x) (subst (CoversKind (kind a s)) (sym y) (h.kinds s lt)))
      (cases_eq s r);
  marks = λ j lt m. mark-with_kind b r l j ∙ h.marks j lt (sym (mark-with_kind a r k j) ∙ m);
  pointers = h.pointers;
}

-- a cell that a run of marks goes over has no pointer then, and any other has what it had
mark_cover : (a b : Frame) (k c : ℕ) → IsFrame b → length a.cells ≡ 64 → CoversPointer (cell a c) (cell b c) → CoversPointer (cell (with_mark a k) c) (cell (with_mark b k) c)
mark_cover a b k c fb len h = ⊎_elim
    (λ e. ⊎_elim
    (λ (lt : k / 8 < 64).
    let inside : k / 8 < length a.cells = omega (arith, len) in
    subst (λ z. CoversPointer (cell (with_mark a k) z) (cell (with_mark b k) z)) (sym e) (subst (λ x. CoversPointer x (cell (with_mark b k) (k / 8))) (sym (cell-with_mark_same a k inside)) tt))
    (λ (ge : 64 ≤ k / 8). subst (λ (g : Frame). CoversPointer (cell g c) (cell (with_mark b k) c)) (sym (cells_past a k (omega (arith, len)))) (subst (λ (g : Frame). CoversPointer (cell a c) (cell g c)) (sym (cells_past b k (omega (arith, fb.cells)))) h))
    (cases_lt (k / 8) 64))
    (λ ne. rw (cell-with_mark_other a k c ne, cell-with_mark_other b k c ne) h)
    (cases_eq c (k / 8))

marks_cover : (a b : Frame) (at n : ℕ) → IsFrame b → length a.cells ≡ 64 → ((c : ℕ) → c < 64 → CoversPointer (cell a c) (cell b c)) → (c : ℕ) → c < 64 → CoversPointer (cell (with_marks a at n) c) (cell (with_marks b at n) c)
unfolding with_marks
marks_cover a b at zero fb len h c lt = h c lt
marks_cover a b at (suc n) fb len h c lt =
    mark_cover (with_marks a at n) (with_marks b at n) (at + n) c (IsFrame-with_marks b at n fb) (cells-with_marks a at n ∙ len) (marks_cover a b at n fb len h c lt)

pub covers-with_marks : (a b : Frame) (at n : ℕ) → IsFrame a → IsFrame b → Covers a b → Covers (with_marks a at n) (with_marks b at n)
covers-with_marks a b at n fa fb h = record {
  kinds = λ r lt. rw (kind-with_marks a at n r, kind-with_marks b at n r) (h.kinds r lt);
  marks = λ k lt m.
      let outside : (k < at) ⊎ (at + n ≤ k) → mark (with_marks b at n) k ≡ true =
      λ out. mark-with_marks_outside b at n k out ∙ h.marks k lt (sym (mark-with_marks_outside a at n k out) ∙ m) in
      ⊎_elim
      (λ below. outside (inl below))
      (λ from. ⊎_elim (λ to. mark-with_marks_inside b at n k fb lt from to) (λ past. outside (inr past)) (cases_lt k (at + n)))
      (cases_lt k at);
  pointers = λ c lt. marks_cover a b at n fb fa.cells h.pointers c lt;
}

-- ---- cells

pub mark-with_cell_other : (f : Frame) (c : ℕ) (x : Cell) (k : ℕ) → k / 8 ≢ c → mark (with_cell f c x) k ≡ mark f k
unfolding mark
mark-with_cell_other f c x k ne = ap (λ (y : Cell). bit_at (marks_of y) (k % 8) == 1) (cell-with_cell_other f c (k / 8) x ne)

-- something in a cell of the one that says no more than what is in that cell of the other
pub covers-with_cell : (a b : Frame) (c : ℕ) (x y : Cell) → IsFrame a → IsFrame b → CoversCell x y → Covers a b → Covers (with_cell a c x) (with_cell b c y)
covers-with_cell a b c x y fa fb is h = record {
  kinds = h.kinds;
  marks = λ k lt m. marks_from_cells (with_cell a c x) (with_cell b c y) k (one (k / 8) (omega arith)).0 m;
  pointers = λ d lt. (one d lt).1;
}
  where
    one : (d : ℕ) → d < 64 → CoversCell (cell (with_cell a c x) d) (cell (with_cell b c y) d)
    one d lt = ⊎_elim
        (λ e.
        let inside : c < 64 = omega arith in
        subst (λ z. CoversCell (cell (with_cell a c x) z) (cell (with_cell b c y) z)) (sym e) (rw (cell-with_cell_same a c x fa inside, cell-with_cell_same b c y fb inside) is))
        (λ ne. rw (cell-with_cell_other a c d x ne, cell-with_cell_other b c d y ne) (cells_from_marks a b d lt h.marks, h.pointers d lt))
        (cases_eq d c)

pub all_marked-covers : (a b : Frame) (at n : ℕ) → at + n ≤ 512 → Covers a b → all_marked a at n ≡ true → all_marked b at n ≡ true
all_marked-covers a b at n within h all =
    all_marked_from b at n (λ k from to. h.marks k (omega arith) (all_marked_each a at n all k from to))

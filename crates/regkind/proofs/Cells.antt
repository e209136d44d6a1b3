-- Marks as the bits of cells.
use Rattle.std.proofs.Common.{◌≡◌, ◌≢◌, ℕ, ◌+◌, ◌*◌, ◌/◌, ◌%◌, ◌^◌, ◌<◌, ◌≤◌, Bool, true, false, List, length, refl, sym, ap, ◌∙◌, ⊎_elim, arith, subst}
use Rattle.std.specs.Int.{bit_at}
use Rattle.std.specs.Int.RustNames.{bit_or}
use Rattle.std.proofs.lemmas.Bool.{cases_eq, cases_lt, eqb-true, eq-eqb}
use Rattle.std.proofs.lemmas.Nat.{or_lt}
use Rattle.std.proofs.Math.Pow.{pow-lt}
use Rattle.std.proofs.lemmas.Nat.Bits.{bit_at_or, bit_at-pow_same, bit_at-pow_other, bit_at-lt, same_from_bits_below}
use Rattle.std.proofs.lemmas.List.{get_or-set_same, get_or-set_other, length-set, set_past}
use Rattle.regkind.specs.declared.frames.Cell.{Cell}
use Rattle.regkind.specs.declared.frames.Cell.TheVariants.{Marks, Spilled}
use Rattle.regkind.specs.Frames.{Frame, IsFrame, IsCell, CoversCell, CoversMarks, kind, cell, marks_of, mark, with_mark, with_cell}

-- ---- marks as bits

pub mark_from_bit : (f : Frame) (k : ℕ) → bit_at (marks_of (cell f (k / 8))) (k % 8) ≡ 1 → mark f k ≡ true
unfolding mark
mark_from_bit f k e = eq-eqb _ _ e

pub bit_from_mark : (f : Frame) (k : ℕ) → mark f k ≡ true → bit_at (marks_of (cell f (k / 8))) (k % 8) ≡ 1
unfolding mark
bit_from_mark f k e = eqb-true _ _ e

-- two tests that hold together are the same
same_test : (a b : Bool) → (a ≡ true → b ≡ true) → (b ≡ true → a ≡ true) → a ≡ b
same_test true b p q = sym (p refl)
same_test false true p q = q refl
same_test false false p q = refl

bit_or_same : (n i : ℕ) → bit_at (bit_or n (2 ^ i)) i ≡ 1
bit_or_same n i = omega (arith, bit_at_or n (2 ^ i) i, bit_at-pow_same i, bit_at-lt n i)

bit_or_other : (n i j : ℕ) → j ≢ i → bit_at (bit_or n (2 ^ i)) j ≡ bit_at n j
bit_or_other n i j ne = omega (arith, bit_at_or n (2 ^ i) j, bit_at-pow_other i j ne)

-- ---- one mark

pub cell-with_mark_other : (f : Frame) (k c : ℕ) → c ≢ k / 8 → cell (with_mark f k) c ≡ cell f c
unfolding with_mark
cell-with_mark_other f k c ne = get_or-set_other f.cells (k / 8) c _ (Marks 0) ne

pub cell-with_mark_same : (f : Frame) (k : ℕ) → k / 8 < length f.cells → cell (with_mark f k) (k / 8) ≡ Marks (bit_or (marks_of (cell f (k / 8))) (2 ^ (k % 8)))
unfolding with_mark
cell-with_mark_same f k h = get_or-set_same f.cells (k / 8) _ (Marks 0) h

pub cells_past : (f : Frame) (k : ℕ) → length f.cells ≤ k / 8 → with_mark f k ≡ f
unfolding with_mark
cells_past f k h = ap (λ (x : List Cell). record f { cells = x }) (set_past f.cells (k / 8) _ h)

pub mark-with_mark_same : (f : Frame) (k : ℕ) → length f.cells ≡ 64 → k < 512 → mark (with_mark f k) k ≡ true
mark-with_mark_same f k len lt =
    let inside : k / 8 < length f.cells = omega arith in
    mark_from_bit (with_mark f k) k (rw (cell-with_mark_same f k inside) (bit_or_same _ _))

other_bit : (f : Frame) (k j : ℕ) → j ≢ k → bit_at (marks_of (cell (with_mark f k) (j / 8))) (j % 8) ≡ bit_at (marks_of (cell f (j / 8))) (j % 8)
other_bit f k j ne = ⊎_elim
    (λ same. ⊎_elim
    (λ inside.
    let apart : j % 8 ≢ k % 8 = omega arith in
    rw same (rw (cell-with_mark_same f k inside) (bit_or_other _ _ _ apart)))
    (λ past. ap (λ (g : Frame). bit_at (marks_of (cell g (j / 8))) (j % 8)) (cells_past f k past))
    (cases_lt (k / 8) (length f.cells)))
    (λ other. ap (λ (x : Cell). bit_at (marks_of x) (j % 8)) (cell-with_mark_other f k (j / 8) other))
    (cases_eq (j / 8) (k / 8))

pub mark-with_mark_other : (f : Frame) (k j : ℕ) → j ≢ k → mark (with_mark f k) j ≡ mark f j
mark-with_mark_other f k j ne = same_test _ _
    (λ m. mark_from_bit f j (sym (other_bit f k j ne) ∙ bit_from_mark (with_mark f k) j m))
    (λ m. mark_from_bit (with_mark f k) j (other_bit f k j ne ∙ bit_from_mark f j m))

pub kind-with_mark : (f : Frame) (k r : ℕ) → kind (with_mark f k) r ≡ kind f r
unfolding with_mark
kind-with_mark f k r = refl

-- the marks of a cell are eight bits
pub marks_small : (x : Cell) → IsCell x → marks_of x < 256
marks_small (Marks n) h = h
marks_small (Spilled k) h = omega arith

still_cell : (f : Frame) (k c : ℕ) → IsFrame f → IsCell (cell (with_mark f k) c)
still_cell f k c frame = ⊎_elim
    (λ same. ⊎_elim
    (λ inside.
    let place : k % 8 < 8 = omega arith in
    let small : 2 ^ (k % 8) < 2 ^ 8 = pow-lt place in
    rw same (rw (cell-with_mark_same f k inside) (or_lt 8 _ _ (marks_small (cell f (k / 8)) (frame.each (k / 8))) small)))
    (λ past. rw (cells_past f k past) (frame.each c))
    (cases_lt (k / 8) (length f.cells)))
    (λ other. rw (cell-with_mark_other f k c other) (frame.each c))
    (cases_eq c (k / 8))

pub IsFrame-with_mark : (f : Frame) (k : ℕ) → IsFrame f → IsFrame (with_mark f k)
unfolding with_mark
IsFrame-with_mark f k frame = record {
  kinds = frame.kinds;
  cells = length-set f.cells (k / 8) _ ∙ frame.cells;
  each = λ c. still_cell f k c frame;
}

-- ---- something else in a cell

pub cell-with_cell_same : (f : Frame) (c : ℕ) (x : Cell) → IsFrame f → c < 64 → cell (with_cell f c x) c ≡ x
cell-with_cell_same f c x frame lt = let inside : c < length f.cells = omega (arith, frame.cells) in get_or-set_same f.cells c x (Marks 0) inside

pub cell-with_cell_other : (f : Frame) (c d : ℕ) (x : Cell) → d ≢ c → cell (with_cell f c x) d ≡ cell f d
cell-with_cell_other f c d x ne = get_or-set_other f.cells c d x (Marks 0) ne

past_cell : (f : Frame) (c : ℕ) (x : Cell) → length f.cells ≤ c → with_cell f c x ≡ f
past_cell f c x h = ap (λ (y : List Cell). record f { cells = y }) (set_past f.cells c x h)

pub IsFrame-with_cell : (f : Frame) (c : ℕ) (x : Cell) → IsCell x → IsFrame f → IsFrame (with_cell f c x)
IsFrame-with_cell f c x is frame = record {
  kinds = frame.kinds;
  cells = length-set f.cells c x ∙ frame.cells;
  each = λ d. ⊎_elim
      (λ same. ⊎_elim
      (λ (inside : c < length f.cells). rw same (rw (get_or-set_same f.cells c x (Marks 0) inside) is))
      (λ past. subst (λ (g : Frame). IsCell (cell g d)) (sym (past_cell f c x past)) (frame.each d))
      (cases_lt c (length f.cells)))
      (λ other. rw (cell-with_cell_other f c d x other) (frame.each d))
      (cases_eq d c);
}

-- ---- marks of whole cells

pub cells_from_marks : (a b : Frame) (c : ℕ) → c < 64 → ((k : ℕ) → k < 512 → mark a k ≡ true → mark b k ≡ true) → CoversMarks (cell a c) (cell b c)
cells_from_marks a b c lt each i h e =
    let k : ℕ = 8 * c + i in
    let in_cell : k / 8 ≡ c = omega arith in
    let place : k % 8 ≡ i = omega arith in
    let m : mark b k ≡ true = each k (omega arith) (mark_from_bit a k (rw (in_cell, place) e)) in
    rw (in_cell, place) at (bit_from_mark b k m)

pub marks_from_cells : (a b : Frame) (k : ℕ) → CoversMarks (cell a (k / 8)) (cell b (k / 8)) → mark a k ≡ true → mark b k ≡ true
marks_from_cells a b k h m = mark_from_bit b k (h (k % 8) (omega arith) (bit_from_mark a k m))

same_marks : (a b : ℕ) → a < 256 → b < 256 → CoversMarks (Marks a) (Marks b) → CoversMarks (Marks b) (Marks a) → a ≡ b
same_marks a b la lb h g = same_from_bits_below 8 a b la lb (λ i lt. ⊎_elim
    (λ one. one ∙ sym (h i lt one))
    (λ none. ⊎_elim
    (λ one. absurd (none (g i lt one)))
    (λ neither. omega (arith, bit_at-lt a i, bit_at-lt b i))
    (cases_eq (bit_at b i) 1))
    (cases_eq (bit_at a i) 1))

pub same_cell : (a b : Cell) → IsCell a → IsCell b → CoversCell a b → CoversCell b a → a ≡ b
same_cell (Marks a) (Marks b) la lb h g = ap Marks (same_marks a b la lb h.0 g.0)
same_cell (Spilled k) b la lb h g = sym h.1
same_cell (Marks a) (Spilled k) la lb h g = g.1

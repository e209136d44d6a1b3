-- Bytes that are a cell of the stack, and the pointer that may stand there.
use Rattle.std.proofs.Common.{◌≡◌, ℕ, ◌+◌, ◌*◌, ◌/◌, ◌%◌, ◌<◌, ◌≤◌, Bool, true, false, cond, Option, Some, None, refl, sym, ap, ◌∙◌, arith, subst}
use Rattle.std.specs.Prelude.{◌&&◌, not, ◌==◌, option_and_then, ℤ, pos, negsuc, ◌+ℤ◌, int_le}
use Rattle.std.specs.Int.{bit_at}
use Rattle.std.proofs.lemmas.Bool.{false≢true, and_parts, eqb-true, not-false}
use Rattle.std.proofs.lemmas.Int.{ints}
use Rattle.std.proofs.lemmas.Nat.Bits.{bit_at-zero}
use Rattle.regkind.specs.declared.frames.Kind.{Kind}
use Rattle.regkind.specs.declared.frames.Kind.TheVariants.{Stack, Value, ValueOrNull}
use Rattle.regkind.specs.declared.frames.Cell.{Cell}
use Rattle.regkind.specs.declared.frames.Cell.TheVariants.{Marks, Spilled}
use Rattle.regkind.specs.Frames.{Frame, Covers, CoversCell, CoversPointer, IsCell, cell, marks_of, mark, all_marked}
use Rattle.regkind.proofs.Export as frames
use Rattle.verifier.specs.Signature.{Signature}
use Rattle.verifier.specs.Regions.{lies_in, stack_index, whole_cell, spilled_kind, pointer_in, has_unmarked}
use Rattle.verifier.specs.FrameAfter.{forgotten_cell}

-- ---- whole cells

-- bytes that lie in the stack end at its end
pub stack_index_end : (z : ℤ) (n : ℕ) → lies_in (negsuc 511) (pos 0) z n ≡ true → stack_index z + n ≤ 512
stack_index_end z n e = let w = and_parts (int_le (negsuc 511) z) _ e in grind (arith, ints)

-- n bytes at distance d from such a pointer are cell c of the stack
pub record IsWhole (k : Kind) (d : ℤ) (n c : ℕ) : Type 0 where
  pub offset : ℤ
  pub base : k ≡ Stack offset
  pub bytes : n ≡ 8
  pub inside : lies_in (negsuc 511) (pos 0) (offset +ℤ d) n ≡ true
  pub first : stack_index (offset +ℤ d) ≡ 8 * c
  pub few : c < 64

some_of : (b : Bool) (x c : ℕ) → cond b (Some x) None ≡ Some c → (b ≡ true) × (x ≡ c)
some_of true x c e = (refl, cc)
some_of false x c e = cc

pub whole_is : (k : Kind) (d : ℤ) (n c : ℕ) → whole_cell k d n ≡ Some c → IsWhole k d n c
whole_is (Stack o) d n c e =
    let found = some_of _ (stack_index (o +ℤ d) / 8) c e in
    let parts = and_parts (n == 8) _ found.0 in
    let place = and_parts (lies_in (negsuc 511) (pos 0) (o +ℤ d) n) _ parts.1 in
    let bytes : n ≡ 8 = eqb-true n 8 parts.0 in
    let start : stack_index (o +ℤ d) % 8 ≡ 0 = eqb-true _ 0 place.1 in
    let ends = stack_index_end (o +ℤ d) n place.0 in
    record { offset = o; base = refl; bytes = bytes; inside = place.0; first = omega (arith, start, found.1); few = omega (arith, start, found.1, ends, bytes) }
whole_is k d n c e = cc

-- ---- the pointer in a cell

-- these bytes are a cell with this pointer
pub record HasPointer (f : Frame) (k : Kind) (d : ℤ) (n : ℕ) (p : Kind) : Type 0 where
  pub place : ℕ
  pub whole : whole_cell k d n ≡ Some place
  pub spilled : cell f place ≡ Spilled p

spilled_is : (x : Cell) (p : Kind) → spilled_kind x ≡ Some p → x ≡ Spilled p
spilled_is (Marks n) p e = cc
spilled_is (Spilled k) p e = cc

pub pointer_is : (f : Frame) (k : Kind) (d : ℤ) (n : ℕ) (p : Kind) → pointer_in f k d n ≡ Some p → HasPointer f k d n p
pointer_is f k d n p e = by (whole_cell k d n) refl e
  where
    by : (o : Option ℕ) → whole_cell k d n ≡ o → option_and_then (λ c. spilled_kind (cell f c)) o ≡ Some p → HasPointer f k d n p
    by None w e = cc
    by (Some c) w e = record { place = c; whole = w; spilled = spilled_is (cell f c) p e }

pub pointer_from : (f : Frame) (k : Kind) (d : ℤ) (n c : ℕ) (p : Kind) → whole_cell k d n ≡ Some c → cell f c ≡ Spilled p → pointer_in f k d n ≡ Some p
pointer_from f k d n c p w s = ap (option_and_then (λ c. spilled_kind (cell f c))) w ∙ ap spilled_kind s

-- the pointer of a cell is there in a frame that says more
pub pointer_too : (a b : Frame) (k : Kind) (d : ℤ) (n : ℕ) (p : Kind) → Covers a b → pointer_in a k d n ≡ Some p → pointer_in b k d n ≡ Some p
pointer_too a b k d n p h e =
    let has = pointer_is a k d n p e in
    let few = (whole_is k d n has.place has.whole).few in
    pointer_from b k d n has.place p has.whole (subst (λ x. CoversPointer x (cell b has.place)) has.spilled (h.pointers has.place few))

-- ---- marks or a pointer

-- no byte of a pointer has a mark
pub spilled_unmarked : (f : Frame) (c : ℕ) (p : Kind) → cell f c ≡ Spilled p → (k : ℕ) → k / 8 ≡ c → mark f k ≡ false
unfolding mark
spilled_unmarked f c p s k e = ap (λ (x : Cell). bit_at (marks_of x) (k % 8) == 1) (ap (cell f) e ∙ s) ∙ ap (λ (n : ℕ). n == 1) (bit_at-zero (k % 8))

-- bytes of the stack that all have marks are no pointer
pub marked_is_no_pointer : (l : Signature) (f : Frame) (k : Kind) (d : ℤ) (n : ℕ) (p : Kind) → has_unmarked l f k d n ≡ false → pointer_in f k d n ≡ Some p → ⊥
marked_is_no_pointer l f k d n p e has =
    let pointer = pointer_is f k d n p has in
    let whole = whole_is k d n pointer.place pointer.whole in
    let z = whole.offset +ℤ d in
    let at_stack : has_unmarked l f (Stack whole.offset) d n ≡ false = subst (λ x. has_unmarked l f x d n ≡ false) whole.base e in
    let unmarked : not (all_marked f (stack_index z) n) ≡ false = ap (λ (b : Bool). b && not (all_marked f (stack_index z) n)) (sym whole.inside) ∙ at_stack in
    let marked = frames.all_marked_each f (stack_index z) n (not-false _ unmarked) (8 * pointer.place) (omega (arith, whole.first)) (omega (arith, whole.first, whole.bytes)) in
    false≢true (sym (spilled_unmarked f pointer.place p pointer.spilled (8 * pointer.place) (omega arith)) ∙ marked)

-- ---- what is forgotten

pub marks-forgotten : (m : ℕ) (x : Cell) → marks_of (forgotten_cell m x) ≡ marks_of x
marks-forgotten m (Marks n) = refl
marks-forgotten m (Spilled (Value n o)) = by (m == n)
  where
    by : (b : Bool) → marks_of (cond b (Marks 0) (Spilled (Value n o))) ≡ 0
    by true = refl
    by false = refl
marks-forgotten m (Spilled (ValueOrNull n)) = by (m == n)
  where
    by : (b : Bool) → marks_of (cond b (Marks 0) (Spilled (ValueOrNull n))) ≡ 0
    by true = refl
    by false = refl
marks-forgotten m (Spilled k) = refl

pub forgotten_is : (m : ℕ) (x : Cell) → IsCell x → IsCell (forgotten_cell m x)
forgotten_is m (Marks n) h = h
forgotten_is m (Spilled (Value n o)) h = by (m == n)
  where
    by : (b : Bool) → IsCell (cond b (Marks 0) (Spilled (Value n o)))
    by true = omega arith
    by false = refl
forgotten_is m (Spilled (ValueOrNull n)) h = by (m == n)
  where
    by : (b : Bool) → IsCell (cond b (Marks 0) (Spilled (ValueOrNull n)))
    by true = omega arith
    by false = refl
forgotten_is m (Spilled k) h = h

pub forgotten_covers : (m : ℕ) (x y : Cell) → CoversCell x y → CoversCell (forgotten_cell m x) (forgotten_cell m y)
forgotten_covers m (Marks n) y h = (λ i lt one. ap (λ (z : ℕ). bit_at z i) (marks-forgotten m y) ∙ h.0 i lt one, tt)
forgotten_covers m (Spilled k) y h = subst (λ z. CoversCell (forgotten_cell m (Spilled k)) (forgotten_cell m z)) (sym h.1) (λ i lt one. one, frames.pointer_refl (forgotten_cell m (Spilled k)))

-- The first line of a text, and those behind it.
use Rattle.std.proofs.Common.{◌≡◌, ◌≢◌, ℕ, suc, ◌<◌, eqb, false, List, [], ◌∷◌, ◌++◌, length, get_or, refl, ap, arith}
use Rattle.std.specs.List.{onto_first}
use Rattle.std.proofs.lemmas.Bool.{ne_eqb}
use Rattle.text.specs.Lines.{lines_of}

abbrev pub HasNoFeed : List ℕ → Type 0
HasNoFeed xs = (i : ℕ) → i < length xs → get_or xs i 0 ≢ 10

pub lines_of-cut : (xs ys : List ℕ) → HasNoFeed xs → lines_of (xs ++ 10 ∷ ys) ≡ xs ∷ lines_of ys
lines_of-cut [] ys h = refl
lines_of-cut (x ∷ xs) ys h =
    let no : eqb x 10 ≡ false = ne_eqb x 10 (h 0 (omega arith)) in
    rw (no, lines_of-cut xs ys (λ i lt. h (suc i) (omega arith))) refl

pub lines_of-last : (x : ℕ) (xs : List ℕ) → HasNoFeed (x ∷ xs) → lines_of (x ∷ xs) ≡ (x ∷ xs) ∷ []
lines_of-last x [] h =
    let no : eqb x 10 ≡ false = ne_eqb x 10 (h 0 (omega arith)) in
    rw no refl
lines_of-last x (y ∷ ys) h =
    let no : eqb x 10 ≡ false = ne_eqb x 10 (h 0 (omega arith)) in
    rw no (ap (onto_first x) (lines_of-last y ys (λ i lt. h (suc i) (omega arith))))

pub lines_of-whole : (xs : List ℕ) → 0 < length xs → HasNoFeed xs → lines_of xs ≡ xs ∷ []
lines_of-whole [] nonempty h = absurd (omega arith)
lines_of-whole (x ∷ xs) nonempty h = lines_of-last x xs h

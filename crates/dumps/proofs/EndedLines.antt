-- The first line of a text with its line feed, and those behind it.
use Rattle.std.proofs.Common.{◌≡◌, ℕ, suc, ◌<◌, eqb, false, List, [], ◌∷◌, ◌++◌, length, Option, Some, None, refl, ap, ◌∙◌, arith}
use Rattle.std.specs.Borrow.{Bor}
use Rattle.std.specs.Option.{MatchOption}
use Rattle.std.proofs.lemmas.Bool.{ne_eqb}
use Rattle.text.proofs.Export.{HasNoFeed}
use Rattle.dumps.specs.Grammar.{onto_line, ended_lines}

pub ended_lines-cut : (xs ys : List ℕ) → HasNoFeed xs → ended_lines (xs ++ 10 ∷ ys) ≡ Some xs ∷ ended_lines ys
ended_lines-cut [] ys h = refl
ended_lines-cut (x ∷ xs) ys h =
    let no : eqb x 10 ≡ false = ne_eqb x 10 (h 0 (omega arith)) in
    rw (no, ended_lines-cut xs ys (λ i lt. h (suc i) (omega arith))) refl

ended_lines-last : (x : ℕ) (xs : List ℕ) → HasNoFeed (x ∷ xs) → ended_lines (x ∷ xs) ≡ None ∷ []
ended_lines-last x [] h =
    let no : eqb x 10 ≡ false = ne_eqb x 10 (h 0 (omega arith)) in
    rw no refl
ended_lines-last x (y ∷ ys) h =
    let no : eqb x 10 ≡ false = ne_eqb x 10 (h 0 (omega arith)) in
    rw no (ap (onto_line x) (ended_lines-last y ys (λ i lt. h (suc i) (omega arith))))

pub ended_lines-whole : (xs : List ℕ) → 0 < length xs → HasNoFeed xs → ended_lines xs ≡ None ∷ []
ended_lines-whole [] nonempty h = absurd (omega arith)
ended_lines-whole (x ∷ xs) nonempty h = ended_lines-last x xs h

-- the text is cut at its first line feed, or has none
pub ended_line_is : (bs : List ℕ) (r : Option (Bor (List ℕ) × Bor (List ℕ))) → 0 < length bs
    → MatchOption r (HasNoFeed bs) (λ x. (bs ≡ x.0.now ++ 10 ∷ x.1.now) × HasNoFeed x.0.now)
    → MatchOption r (ended_lines bs ≡ None ∷ []) (λ x. ended_lines bs ≡ Some x.0.now ∷ ended_lines x.1.now)
ended_line_is bs None some h = ended_lines-whole bs some h
ended_line_is bs (Some x) some h = ap ended_lines h.0 ∙ ended_lines-cut x.0.now x.1.now h.1

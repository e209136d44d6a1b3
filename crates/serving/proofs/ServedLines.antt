-- A text whose lines all end is served line after line.
use Rattle.std.proofs.Common.{◌≡◌, ◌⊎◌, inl, inr, ℕ, Bool, true, false, cond, List, [], ◌∷◌, ◌++◌, refl, sym, ap, subst, ◌∙◌, append_assoc}
use Rattle.std.specs.Prelude.{◌==◌}
use Rattle.std.specs.List.{onto_first}
use Rattle.std.proofs.lemmas.List.{append-nil}
use Rattle.std.proofs.lemmas.Bool.{eqb-false}
use Rattle.text.specs.Lines.{lines_of}
use Rattle.loader.specs.CatalogueView.{CatalogueView}
use Rattle.serving.specs.ServeAnswer.{ServiceState, Served, served, served_after, turn_at, after_line}
use Rattle.serving.specs.ServeLaws.{EachLineEnds}
use Rattle.serving.specs.ServiceKept.{with_byte}

-- this line is at hand
abbrev pub at_line : ServiceState → List ℕ → ServiceState
at_line s line = record s { left = line }

-- what lines make a service write, and what is known after them
abbrev pub lines_served : CatalogueView → ServiceState → List (List ℕ) → Served
lines_served c s [] = record { text = []; serving = s }
lines_served c s (l ∷ ls) = served_after (turn_at c (at_line s l)).text (lines_served c (after_line c (at_line s l)) ls)

-- a beginning of the first line
abbrev onto : List ℕ → List (List ℕ) → List (List ℕ)
onto before [] = []
onto before (l ∷ ls) = (before ++ l) ∷ ls

onto_nothing : (ls : List (List ℕ)) → onto [] ls ≡ ls
onto_nothing [] = refl
onto_nothing (l ∷ ls) = refl

-- there is a first line
abbrev HasFirst : List (List ℕ) → Type 0
HasFirst [] = ⊥
HasFirst (l ∷ ls) = Unit {0}

first_is_there : (x : ℕ) (ls : List (List ℕ)) → HasFirst (onto_first x ls)
first_is_there x [] = tt
first_is_there x (l ∷ ls) = tt

has_first : (x : ℕ) (xs : List ℕ) → HasFirst (lines_of (x ∷ xs))
has_first x xs = by_feed (x == 10)
  where
    by_feed : (b : Bool) → HasFirst (cond b ([] ∷ lines_of xs) (onto_first x (lines_of xs)))
    by_feed true = tt
    by_feed false = first_is_there x (lines_of xs)

-- the last byte ends a line
abbrev pub Ends : List ℕ → Type 0
Ends [] = ⊥
Ends (b ∷ []) = b ≡ 10
Ends (b ∷ x ∷ xs) = Ends (x ∷ xs)

pub ends_behind : (front : List ℕ) → Ends (front ++ 10 ∷ [])
ends_behind [] = refl
ends_behind (x ∷ []) = refl
ends_behind (x ∷ y ∷ front) = ends_behind (y ∷ front)

-- a byte, from what is so after it
module _ (c : CatalogueView) (s : ServiceState) (b : ℕ) (bs : List ℕ) where
  at_feed : served c (after_line c s) bs ≡ lines_served c (after_line c s) (lines_of bs)
      → served_after (turn_at c s).text (served c (after_line c s) bs) ≡ lines_served c s ((s.left ++ []) ∷ lines_of bs)
  at_feed after_it =
      subst (λ (x : List ℕ). served_after (turn_at c s).text (served c (after_line c s) bs) ≡ lines_served c s (x ∷ lines_of bs))
      (sym (append-nil s.left)) (ap (served_after (turn_at c s).text) after_it)

  longer : (ls : List (List ℕ)) → HasFirst ls → lines_served c (with_byte s b) (onto (s.left ++ b ∷ []) ls) ≡ lines_served c s (onto s.left (onto_first b ls))
  longer [] none = absurd none
  longer (l ∷ ls) first = ap (λ (x : List ℕ). lines_served c s (x ∷ ls)) (append_assoc s.left (b ∷ []) l)

  -- the byte ends the line or does not
  by_byte : (t : Bool) → (t ≡ true → served c (after_line c s) bs ≡ lines_served c (after_line c s) (lines_of bs))
      → (t ≡ false → HasFirst (lines_of bs) × (served c (with_byte s b) bs ≡ lines_served c (with_byte s b) (onto (s.left ++ b ∷ []) (lines_of bs))))
      → cond t (served_after (turn_at c s).text (served c (after_line c s) bs)) (served c (with_byte s b) bs) ≡ lines_served c s (onto s.left (cond t ([] ∷ lines_of bs) (onto_first b (lines_of bs))))
  by_byte true ended on = at_feed (ended refl)
  by_byte false ended on = (on refl).1 ∙ longer (lines_of bs) (on refl).0

from_left : (c : CatalogueView) (s : ServiceState) (bytes : List ℕ) → Ends bytes → served c s bytes ≡ lines_served c s (onto s.left (lines_of bytes))
unfolding served
from_left c s [] ends = absurd ends
from_left c s (b ∷ []) ends = by_byte c s b [] (b == 10) (λ on. refl) (λ off. absurd (eqb-false b 10 off ends))
from_left c s (b ∷ x ∷ xs) ends =
    by_byte c s b (x ∷ xs) (b == 10)
    (λ on. from_left c (after_line c s) (x ∷ xs) ends ∙ ap (lines_served c (after_line c s)) (onto_nothing (lines_of (x ∷ xs))))
    (λ off. (has_first x xs, from_left c (with_byte s b) (x ∷ xs) ends))

-- there is no text, or its last line ends
pub all_served : (c : CatalogueView) (s : ServiceState) (bytes : List ℕ) → s.left ≡ [] → (bytes ≡ []) ⊎ Ends bytes → served c s bytes ≡ lines_served c s (lines_of bytes)
unfolding served
all_served c s bytes none (inl is) = subst (λ (x : List ℕ). served c s x ≡ lines_served c s (lines_of x)) (sym is) refl
all_served c s bytes none (inr ends) =
    from_left c s bytes ends ∙ ap (λ (x : List ℕ). lines_served c s (onto x (lines_of bytes))) none ∙ ap (lines_served c s) (onto_nothing (lines_of bytes))

pub ends_so : (bytes : List ℕ) → EachLineEnds bytes → (bytes ≡ []) ⊎ Ends bytes
ends_so bytes (inl none) = inl none
ends_so bytes (inr last) = inr (subst Ends (sym last.1) (ends_behind last.0))

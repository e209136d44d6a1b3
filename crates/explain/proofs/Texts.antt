-- What texts begin with, and where they stand.
use Rattle.std.proofs.Common.{◌≡◌, ℕ, Bool, true, false, List, [], ◌∷◌, ◌++◌, refl, sym, ap, subst, ◌∙◌, append_assoc}
use Rattle.std.specs.List.{concat}
use Rattle.std.proofs.lemmas.List.{append-nil}
use Rattle.std.proofs.lemmas.List.Folds.{concat-append}
use Rattle.explain.specs.Told.{BeginsWith, BeginsIf, Adds}

-- texts put together begin with the first of them
pub begins_front : (xs ys : List (List ℕ)) (old new : List ℕ) → old ≡ [] → new ≡ old ++ concat (xs ++ ys)
    → BeginsWith (concat xs) new
begins_front xs ys old new none put = (concat ys, put ∙ ap (λ t. t ++ concat (xs ++ ys)) none ∙ concat-append xs ys)

pub adds_front : (xs ys : List (List ℕ)) (words old new : List ℕ) → words ≡ concat xs
    → new ≡ old ++ concat (xs ++ ys) → Adds (BeginsWith words) old new
adds_front xs ys words old new is put = (concat (xs ++ ys), put, (concat ys, concat-append xs ys ∙ ap (λ t. t ++ concat ys) (sym is)))

-- a text behind two rows of texts
pub behind_both : (xs ys : List (List ℕ)) (told old now after : List ℕ) → now ≡ old ++ concat xs
    → after ≡ now ++ concat (ys ++ told ∷ []) → after ≡ old ++ (concat xs ++ (concat ys ++ told))
behind_both xs ys told old now after first second =
    second
    ∙ ap (λ t. t ++ concat (ys ++ told ∷ [])) first
    ∙ append_assoc old (concat xs) (concat (ys ++ told ∷ []))
    ∙ ap (λ t. old ++ (concat xs ++ t)) (concat-append ys (told ∷ []) ∙ ap (λ t. concat ys ++ t) (append-nil told))

-- nothing is added
pub adds_nothing : (IsSo : List ℕ → Type 0) (old : List ℕ) → IsSo [] → Adds IsSo old old
adds_nothing IsSo old so = ([], sym (append-nil old), so)

-- what is added is so in another way too
pub adds_so : (P Q : List ℕ → Type 0) (old new : List ℕ) → ((text : List ℕ) → P text → Q text) → Adds P old new
    → Adds Q old new
adds_so P Q old new f a = (a.0, a.1, f a.0 a.2)

-- where that is so, and where it is not
pub if_true : (b : Bool) (words text : List ℕ) → b ≡ true → BeginsWith words text → BeginsIf b words text
if_true b words text is begins = subst (λ x. BeginsIf x words text) (sym is) begins

pub if_false : (b : Bool) (words : List ℕ) → b ≡ false → BeginsIf b words []
if_false b words is = subst (λ x. BeginsIf x words []) (sym is) refl

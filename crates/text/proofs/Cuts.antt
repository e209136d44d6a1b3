-- A line cut at its spaces, and put together again.
use Rattle.std.proofs.Common.{◌≡◌, ℕ, ◌+◌, ◌<◌, Bool, true, false, not, cond, ltb, List, [], ◌∷◌, ◌++◌, length, get_or, take, drop, Option, Some, None, refl, ap, ap₂, ◌∙◌, arith}
use Rattle.std.specs.List.{position_or_len, before_first, after_first}
use Rattle.std.specs.Option.{option_and_then}
use Rattle.std.proofs.lemmas.Bool.{ltb-true, lt-ltb, eqb-true, and_parts}
use Rattle.std.proofs.lemmas.List.{length-append}
use Rattle.std.proofs.lemmas.List.Sums.{split_at_first, passes_at_first}
use Rattle.std.proofs.Math.Seq.{take-append_seam, drop-append-add}
use Rattle.std.proofs.lemmas.Option.{cond_some}
use Rattle.text.specs.Fields.{is_space, has_no_space, split_at_space}

-- a step that gives something comes of two that do
pub steps : {A B : Type 0} (o : Option A) (f : A → Option B) (b : B) → option_and_then f o ≡ Some b → (a : A) × (o ≡ Some a) × (f a ≡ Some b)
steps (Some a) f b e = (a, refl, e)
steps None f b e = absurd cc

pub if_true : {A : Type 0} (t : Bool) (o : Option A) (a : A) → cond t o None ≡ Some a → (t ≡ true) × (o ≡ Some a)
if_true true o a e = (refl, e)
if_true false o a e = absurd cc

pub unless : {A : Type 0} (t : Bool) (o : Option A) (a : A) → cond t None o ≡ Some a → (t ≡ false) × (o ≡ Some a)
unless true o a e = absurd cc
unless false o a e = (refl, e)

pub split_from : (t : List ℕ) (x : List ℕ × List ℕ) → split_at_space t ≡ Some x → t ≡ x.0 ++ 32 ∷ x.1
split_from t x e =
    let parts = cond_some (ltb (position_or_len is_space t) (length t)) (before_first is_space t, after_first is_space t) x e in
    let lt : position_or_len is_space t < length t = ltb-true _ _ parts.0 in
    let at : get_or t (position_or_len is_space t) 0 ≡ 32 = eqb-true _ _ (passes_at_first is_space t 0 lt) in
    let whole : t ≡ before_first is_space t ++ 32 ∷ after_first is_space t = split_at_first is_space t 0 lt ∙ ap (λ b. before_first is_space t ++ b ∷ after_first is_space t) at in
    whole ∙ ap₂ (λ u v. u ++ 32 ∷ v) (ap (λ y. y.0) parts.1) (ap (λ y. y.1) parts.1)

first_space : (w r : List ℕ) → has_no_space w ≡ true → position_or_len is_space (w ++ 32 ∷ r) ≡ length w
first_space [] r h = refl
first_space (b ∷ w) r h =
    let both = and_parts (not (is_space b)) (has_no_space w) h in
    rw (both.0, first_space w r both.1) (omega arith)

pub split_to : (w r : List ℕ) → has_no_space w ≡ true → split_at_space (w ++ 32 ∷ r) ≡ Some (w, r)
split_to w r h =
    let at = first_space w r h in
    let lt : ltb (length w) (length (w ++ 32 ∷ r)) ≡ true = lt-ltb _ _ (omega (arith, length-append w (32 ∷ r))) in
    let front : take (length w) (w ++ 32 ∷ r) ≡ w = take-append_seam w (32 ∷ r) in
    let back : drop (length w + 1) (w ++ 32 ∷ r) ≡ r = drop-append-add w (32 ∷ r) 1 in
    rw (at, lt, front, back) refl

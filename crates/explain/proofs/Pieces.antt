-- Texts put together, one behind another.
use Rattle.std.proofs.Common.{◌≡◌, ℕ, ◌+◌, ◌<◌, List, [], ◌∷◌, ◌++◌, map, length, drop, get_or, Result, Ok, Err, OnOk, refl, sym, ap, ◌∙◌, append_assoc}
use Rattle.std.specs.Borrow.{Bor}
use Rattle.std.specs.List.{concat}
use Rattle.std.proofs.lemmas.List.{append-nil, drop_more}
use Rattle.std.proofs.lemmas.List.Folds.{concat-append}

-- the texts of these references, joined
abbrev pub joined : List (Bor (List ℕ)) → List ℕ
joined ps = concat (map (λ p. p.now) ps)

pub none_left : {A : Type 0} (xs : List A) → drop (length xs) xs ≡ []
none_left [] = refl
none_left (x ∷ xs) = none_left xs

-- behind the last one all are put
pub whole : (ps : List (Bor (List ℕ))) (k : ℕ) (out all : List ℕ) → k ≡ length ps → out ++ joined (drop k ps) ≡ all
    → out ≡ all
whole ps k out all end so_far = sym (append-nil out) ∙ ap (λ q. out ++ joined q) (sym (ap (λ n. drop n ps) end ∙ none_left ps)) ∙ so_far

-- one text more
pub piece_more : (ps : List (Bor (List ℕ))) (k : ℕ) (d p : Bor (List ℕ)) → k < length ps → p ≡ get_or ps k d
    → (out after all : List ℕ) → out ++ joined (drop k ps) ≡ all → after ≡ out ++ p.now
    → after ++ joined (drop (k + 1) ps) ≡ all
piece_more ps k d p lt is out after all so_far one =
    let here : drop k ps ≡ p ∷ drop (k + 1) ps = drop_more ps k d lt ∙ ap (λ q. q ∷ drop (k + 1) ps) (sym is) in
    ap (λ t. t ++ joined (drop (k + 1) ps)) one ∙ append_assoc out p.now (joined (drop (k + 1) ps)) ∙ ap (λ q. out ++ joined q) (sym here) ∙ so_far

-- texts behind texts
pub both : (xs ys : List (List ℕ)) (old now after : List ℕ) → now ≡ old ++ concat xs → after ≡ now ++ concat ys
    → after ≡ old ++ concat (xs ++ ys)
both xs ys old now after first second =
    second ∙ ap (λ t. t ++ concat ys) first ∙ append_assoc old (concat xs) (concat ys) ∙ ap (λ t. old ++ t) (sym (concat-append xs ys))

-- single texts, one after another
pub one : (old new x : List ℕ) → new ≡ old ++ x → new ≡ old ++ concat (x ∷ [])
one old new x put = put ∙ ap (λ t. old ++ t) (sym (append-nil x))

pub three : (a b d old n m new : List ℕ) → n ≡ old ++ a → m ≡ n ++ b → new ≡ m ++ d
    → new ≡ old ++ concat (a ∷ b ∷ d ∷ [])
three a b d old n m new x y z = both (a ∷ b ∷ []) (d ∷ []) old m new (both (a ∷ []) (b ∷ []) old n m (one old n a x) (one n m b y)) (one m new d z)

pub four : (a b d e old n m k new : List ℕ) → n ≡ old ++ a → m ≡ n ++ b → k ≡ m ++ d → new ≡ k ++ e
    → new ≡ old ++ concat (a ∷ b ∷ d ∷ e ∷ [])
four a b d e old n m k new x y z u = both (a ∷ b ∷ d ∷ []) (e ∷ []) old k new (three a b d old n m k x y z) (one k new e u)

-- what holds where a call succeeded
pub on_ok : {A E : Type 0} {P Q : Type 0} (r : Result A E) → (P → Q) → OnOk r P → OnOk r Q
on_ok (Ok x) f p = f p
on_ok (Err e) f p = tt

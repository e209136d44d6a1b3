-- The slots of the places, and those between.
use Rattle.std.proofs.Common.{◌≡◌, ℕ, zero, suc, ◌+◌, ◌-◌, ◌<◌, List, [], ◌∷◌, ◌++◌, append-nil, length, get_or, replicate, drop, sym, refl, ap, ◌∙◌, subst, arith, Option, None}
use Rattle.std.proofs.lemmas.List.{length_push}
use mathlib.Core.Logic.{dite}
use native.Mathlib.Decide.{ℕ_discrete}
use lib.ListN.{get_elem?}
use Rattle.atomic_table.proofs.Lists.{at_last, at_longer}
use mathlib.Core.Option.{some-injective, some-ne-none}
use Rattle.ownlock.specs.Words.{slot_of}
use Rattle.ownlock.specs.Spreading.{gap, spread, StandsIn}
use Rattle.ownlock.specs.Seats.{At}

-- a slot is that of one place at most
pub one_slot : (p q : ℕ) → slot_of p ≡ slot_of q → p ≡ q
one_slot p q e = omega (arith, e)

pub long_spread : {V : Type 0} (xs : List (Option V)) → length (spread xs) ≡ slot_of (length xs)
long_spread [] = refl
long_spread (x ∷ xs) = let h = long_spread xs in omega (arith, h)

next : (p a : ℕ) → suc (suc (suc (suc (suc (suc (suc (suc (slot_of p + a)))))))) ≡ slot_of (suc p) + a
next p a = omega arith

next_slot : (p : ℕ) → suc (suc (suc (suc (suc (suc (suc (suc (slot_of p)))))))) ≡ slot_of (suc p)
next_slot p = omega arith

-- each place has its value in its slot
pub at_spread : {V : Type 0} (xs : List (Option V)) (p : ℕ) (o : Option V) → At p o xs → At (slot_of p) o (spread xs)
at_spread [] p o e = absurd (some-ne-none o (sym e))
at_spread (x ∷ xs) zero o e = e
at_spread (x ∷ xs) (suc p) o e = subst (λ z. At z o (spread (x ∷ xs))) (next_slot p) (at_spread xs p o e)

-- and nothing is in those between
pub none_between : {V : Type 0} (xs : List (Option V)) (p a : ℕ) → p < length xs → 0 < a → a < 8 → At (slot_of p + a) None (spread xs)
none_between [] p a below low high = absurd (omega (arith, below))
none_between (x ∷ xs) zero zero below low high = absurd (omega (arith, low))
none_between (x ∷ xs) zero (suc zero) below low high = refl
none_between (x ∷ xs) zero (suc (suc zero)) below low high = refl
none_between (x ∷ xs) zero (suc (suc (suc zero))) below low high = refl
none_between (x ∷ xs) zero (suc (suc (suc (suc zero)))) below low high = refl
none_between (x ∷ xs) zero (suc (suc (suc (suc (suc zero))))) below low high = refl
none_between (x ∷ xs) zero (suc (suc (suc (suc (suc (suc zero)))))) below low high = refl
none_between (x ∷ xs) zero (suc (suc (suc (suc (suc (suc (suc zero))))))) below low high = refl
none_between (x ∷ xs) zero (suc (suc (suc (suc (suc (suc (suc (suc a)))))))) below low high = absurd (omega (arith, high))
none_between (x ∷ xs) (suc p) a below low high = subst (λ z. At z None (spread (x ∷ xs))) (next p a) (none_between xs p a (omega (arith, below)) low high)

-- two rows that are spread alike are one
pub one_spread : {V : Type 0} (xs ys : List (Option V)) → spread xs ≡ spread ys → xs ≡ ys
one_spread [] [] e = refl
one_spread [] (y ∷ ys) e = absurd (let no = ap length e in omega (arith, no))
one_spread (x ∷ xs) [] e = absurd (let no = ap length e in omega (arith, no))
one_spread (x ∷ xs) (y ∷ ys) e =
    let first : x ≡ y = ap (λ l. get_or l 0 x) e in
    let more : xs ≡ ys = one_spread xs ys (ap (λ l. drop 8 l) e) in
    λ i. first i ∷ more i

-- one value more is in its slot
behind : {A : Type 0} (xs ys : List A) (x : A) → (xs ++ x ∷ []) ++ ys ≡ xs ++ x ∷ ys
behind [] ys x = refl
behind (z ∷ zs) ys x = ap (λ l. z ∷ l) (behind zs ys x)

-- what comes first of values that are spread, and what is left of them
pub spread_first : {V : Type 0} (xs more : List (Option V)) (x : Option V) → spread xs ≡ x ∷ more → (ys : List (Option V)) × (xs ≡ x ∷ ys) × (more ≡ gap ++ spread ys)
spread_first [] more x e = absurd (let no = ap length e in omega (arith, no))
spread_first (z ∷ zs) more x e = (zs, (let first : z ≡ x = ap (λ l. get_or l 0 z) e in ap (λ y. y ∷ zs) first), sym (ap (λ l. drop 1 l) e))

pub gathered_more : {V : Type 0} (room xs ys all : List (Option V)) (x : Option V) → xs ≡ x ∷ ys → all ≡ spread (room ++ xs) → all ≡ spread ((room ++ x ∷ []) ++ ys)
gathered_more room xs ys all x is so = so ∙ ap spread (ap (λ l. room ++ l) is ∙ sym (behind room ys x))

spread_none : {V : Type 0} (xs : List (Option V)) → spread xs ≡ [] → xs ≡ []
spread_none [] e = refl
spread_none (x ∷ xs) e = absurd (let no = ap length e in omega (arith, no))

pub gathered_all : {V : Type 0} (room xs all : List (Option V)) → [] ≡ spread xs → all ≡ spread (room ++ xs) → all ≡ spread room
gathered_all room xs all none so = so ∙ (ap (λ l. spread (room ++ l)) (spread_none xs (sym none)) ∙ ap spread (append-nil room))

pub passed : {V : Type 0} (rest more : List (Option V)) → rest ≡ gap ++ more → (xs : List (Option V)) → rest ≡ gap ++ xs → more ≡ xs
passed rest more is xs so = ap (λ l. drop 7 l) (sym is ∙ so)

-- one more slot that holds nothing, at either end
one_after : {A : Type 0} (n : ℕ) (x : A) (ys : List A) → replicate n x ++ x ∷ ys ≡ replicate (suc n) x ++ ys
one_after zero x ys = refl
one_after (suc n) x ys = ap (λ l. x ∷ l) (one_after n x ys)

pub gap_passed : {A : Type 0} (all rest more : List A) (x : A) (k : ℕ) → 0 < k → all ≡ replicate (k - 1) x ++ rest → rest ≡ x ∷ more → all ≡ replicate (k + 1 - 1) x ++ more
gap_passed all rest more x k some is first =
    let count : suc (k - 1) ≡ k + 1 - 1 = omega (arith, some) in
    is ∙ ap (λ l. replicate (k - 1) x ++ l) first ∙ one_after (k - 1) x more ∙ ap (λ m. replicate m x ++ more) count

pub gap_left : {A : Type 0} (rest more xs : List A) (x : A) (k : ℕ) → k < 8 → rest ≡ replicate (8 - k) x ++ xs → rest ≡ x ∷ more → more ≡ replicate (8 - (k + 1)) x ++ xs
gap_left rest more xs x k low is first =
    let count : 8 - k ≡ suc (8 - (k + 1)) = omega (arith, low) in
    ap (λ l. drop 1 l) (sym first ∙ is ∙ ap (λ m. replicate m x ++ xs) count)

-- a value more stands in its place
pub stands_more : {A : Type 0} (xs slots : List A) (x : A) (place slot : ℕ) → length xs ≡ place → slot ≡ slot_of place → StandsIn xs slots → At slot x slots → StandsIn (xs ++ x ∷ []) slots
stands_more {A} xs slots x place slot long is stands here p o below at = dite (ℕ_discrete p place)
    (λ e. let same : x ≡ o = some-injective x o (sym here ∙ (ap (λ z. get_elem? slots z) (is ∙ ap slot_of (sym e)) ∙ at)) in
    subst (λ z. At p z (xs ++ x ∷ [])) same (at_last xs x p (long ∙ sym e)))
    (λ ne. at_longer xs (x ∷ []) p o (stands p o (let more = length_push xs x in omega (arith, ne, below, more, long)) at))

-- a word of a table that is opened
abbrev pub blanks : ℕ → List ℕ
blanks n = replicate n 0

pub zeros : (n p : ℕ) → get_or (blanks n) p 0 ≡ 0
zeros zero p = refl
zeros (suc n) zero = refl
zeros (suc n) (suc p) = zeros n p

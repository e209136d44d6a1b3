-- What was told, in its order.
use Rattle.std.proofs.Common.{◌≡◌, ◌∙◌, ℕ, zero, suc, ◌<◌, Bool, true, false, List, [], ◌∷◌, map, length, get_or, refl, sym, ap, subst, arith}
use Rattle.std.specs.List.Sorted.{IsStableByKey}
use Rattle.std.specs.Ordering.{nat_cmp}
use native.Mathlib.Nat.{not-suc-le-zero, le_of_suc-le-suc}
use Rattle.std.proofs.Math.ListN.{length-map}
use Rattle.std.specs.List.Sorted.{IsNonDecreasingBy}
use Rattle.stress.specs.declared.lines.AnsweredCall.{AnsweredCall}
use Rattle.std.specs.Prelude.{filter, if◌then◌else◌, ◌==◌}
use Rattle.stress.specs.Lines.{AreOrdered, ToldCall, Said, at_rank, rank}
use Rattle.stress.specs.Timed.{Timed, how_many}
use Rattle.stress.specs.Shown.{said_of, told_of, timed_of}
use Rattle.stress.proofs.Ranks.{stays}

-- an element of a mapped list, whatever the defaults
pub get_map : {A B : Type 0} (f : A → B) (xs : List A) (i : ℕ) (d : B) (e : A) → i < length xs → get_or (map f xs) i d ≡ f (get_or xs i e)
get_map f [] i d e below = absurd (not-suc-le-zero below)
get_map f (x ∷ xs) zero d e below = refl
get_map f (x ∷ xs) (suc i) d e below = get_map f xs i d e (le_of_suc-le-suc below)

pub ordered : (xs : List AnsweredCall) → IsNonDecreasingBy (λ t. rank (said_of t.said)) xs → AreOrdered (map told_of xs)
ordered [] up i j d low below = absurd (not-suc-le-zero below)
ordered (x ∷ xs) up i j d low below =
    let all = x ∷ xs in
    let inside : j < length all = subst (λ n. j < n) (length-map all told_of) below in
    let before : i < length all = omega (arith, low, inside) in
    rw (get_map told_of all i d x before, get_map told_of all j d x inside) (up i j x low inside)

-- the calls of one rank, as they are told
abbrev at_one : ℕ → List AnsweredCall → List AnsweredCall
at_one r xs = filter (λ t. rank (said_of t.said) == r) xs

at_rank_map : (r : ℕ) (xs : List AnsweredCall) → at_rank r (map told_of xs) ≡ map told_of (at_one r xs)
at_rank_map r [] = refl
at_rank_map r (x ∷ xs) = by (rank (said_of x.said) == r) (at_rank_map r xs)
  where
    by : (b : Bool) → at_rank r (map told_of xs) ≡ map told_of (at_one r xs)
        → (if b then told_of x ∷ at_rank r (map told_of xs) else at_rank r (map told_of xs)) ≡ map told_of (if b then x ∷ at_one r xs else at_one r xs)
    by true rest = ap (λ ts. told_of x ∷ ts) rest
    by false rest = rest

-- a stable sort by ranks leaves the calls of each rank in their order
pub still : (xs ys : List AnsweredCall) → IsStableByKey (λ (t : AnsweredCall). rank (said_of t.said)) nat_cmp xs ys → (r : ℕ) → at_rank r (map told_of ys) ≡ at_rank r (map told_of xs)
still xs ys stable r = at_rank_map r ys ∙ ap (map told_of) (stays (λ (t : AnsweredCall). rank (said_of t.said)) xs ys stable r) ∙ sym (at_rank_map r xs)

-- the calls of a history are the calls that were told
pub of_timed : (xs : List AnsweredCall) → map (λ (t : Timed). t.told) (map timed_of xs) ≡ map told_of xs
of_timed [] = refl
of_timed (x ∷ xs) = ap (λ rest. told_of x ∷ rest) (of_timed xs)

-- as many of the calls were told such a thing
pub as_many : (is : Said → Bool) (xs : List AnsweredCall) → length (filter (λ (t : AnsweredCall). is (said_of t.said)) xs) ≡ how_many is (map told_of xs)
as_many is [] = refl
as_many is (x ∷ xs) = by (is (said_of x.said)) (as_many is xs)
  where
    by : (b : Bool) → length (filter (λ (t : AnsweredCall). is (said_of t.said)) xs) ≡ how_many is (map told_of xs)
        → length (if b then x ∷ filter (λ (t : AnsweredCall). is (said_of t.said)) xs else filter (λ (t : AnsweredCall). is (said_of t.said)) xs)
        ≡ length (if b then told_of x ∷ filter (λ (t : ToldCall). is t.said) (map told_of xs) else filter (λ (t : ToldCall). is t.said) (map told_of xs))
    by true rest = ap (λ n. suc n) rest
    by false rest = rest

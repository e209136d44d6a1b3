-- If each call has two numbers of its own below twice the count of the calls, the calls use all such numbers.
use Rattle.std.proofs.Common.{◌≡◌, ◌≢◌, ℕ, suc, ◌*◌, ◌<◌, true, false, eqb, List, [], ◌∷◌, map, length, get_or, Ok, sym, subst, ◌∙◌, arith, All, AllPairs, ⊎_elim}
use Rattle.std.specs.List.{list_any, IsDistinct, AllByRecursion}
use Rattle.std.proofs.lemmas.Bool.{eqb-true, eq-eqb, ne_eqb, or_left, or_right, or_cases, true_from_ne_false}
use Rattle.std.proofs.lemmas.Option.{get_or_from_slice_get}
use Rattle.std.proofs.lemmas.List.{ext_get_or, get_or-map, length-map}
use Rattle.std.proofs.lemmas.List.Folds.{list_any_at}
use Rattle.std.proofs.lemmas.Map.Steps.{length-le_from_distinct_below}
use Rattle.realtime.specs.Judging.{calls_of}
use Rattle.realtime.specs.declared.histories.Timed.{Timed}
use Rattle.realtime.specs.Histories.{is_used}
use Rattle.realtime.specs.Laws.{ShareNone, AreCalls}
use Rattle.realtime.proofs.Reading.{uses, far_none, far_all}

-- at which numbers the calls began and were back
abbrev pub numbers_of : List Timed → List ℕ
numbers_of [] = []
numbers_of (call ∷ calls) = call.begun ∷ (call.ended ∷ numbers_of calls)

length-numbers_of : (calls : List Timed) → length (numbers_of calls) ≡ 2 * length calls
length-numbers_of [] = omega arith
length-numbers_of (call ∷ calls) = let rest = length-numbers_of calls in omega (arith, rest)

-- a number that no call uses
differs : (x : ℕ) (calls : List Timed) → ((k : ℕ) (d : Timed) → k < length calls → (x ≢ (get_or calls k d).begun) × (x ≢ (get_or calls k d).ended))
    → AllByRecursion (λ y. eqb x y ≡ false) (numbers_of calls)
differs x [] none = tt
differs x (call ∷ calls) none =
    let first = none 0 call (omega arith) in
    (ne_eqb x call.begun first.0, (ne_eqb x call.ended first.1, differs x calls (λ k d lt. none (suc k) d (omega arith))))

distinct : (calls : List Timed) → All (λ call. call.begun < call.ended) calls → AllPairs ShareNone calls → IsDistinct eqb (numbers_of calls)
unfolding IsDistinct
distinct [] backs once = tt
distinct (call ∷ calls) backs once =
    let back : call.begun < call.ended = backs 0 call (omega arith) in
    let other : (k : ℕ) (d : Timed) → k < length calls → ShareNone call (get_or calls k d) = λ k d lt. once 0 (suc k) d (omega arith) (omega arith) in (
      (ne_eqb call.begun call.ended (λ e. omega (arith, e, back)), differs call.begun calls (λ k d lt. ((other k d lt).0, (other k d lt).1))),
      (
        differs call.ended calls (λ k d lt. ((other k d lt).2, (other k d lt).3)),
        distinct calls (λ k d lt. backs (suc k) d (omega arith)) (λ i j d lt within. once (suc i) (suc j) d (omega arith) (omega arith)),
      ),
    )

below : (n : ℕ) (calls : List Timed) → All (λ call. call.begun < call.ended) calls → All (λ call. call.ended < n) calls → (q : ℕ) → list_any (eqb q) (numbers_of calls) ≡ true → q < n
below n [] backs ends q e = absurd cc
below n (call ∷ calls) backs ends q e =
    let back : call.begun < call.ended = backs 0 call (omega arith) in
    let end : call.ended < n = ends 0 call (omega arith) in
    let rest = below n calls (λ k d lt. backs (suc k) d (omega arith)) (λ k d lt. ends (suc k) d (omega arith)) q in
    ⊎_elim
    (λ begun. let at : q ≡ call.begun = eqb-true _ _ begun in omega (arith, at, back, end))
    (λ more. ⊎_elim (λ ended. let at : q ≡ call.ended = eqb-true _ _ ended in omega (arith, at, end)) rest (or_cases _ _ more))
    (or_cases _ _ e)

pub each_used : (calls : List Timed) → All (λ call. call.begun < call.ended) calls → All (λ call. call.ended < 2 * length calls) calls → AllPairs ShareNone calls
    → (x : ℕ) → x < 2 * length calls → is_used calls x ≡ true
unfolding IsDistinct
each_used calls backs ends once x lt = true_from_ne_false (is_used calls x) (λ none.
    let other : (k : ℕ) (d : Timed) → k < length calls → (x ≢ (get_or calls k d).begun) × (x ≢ (get_or calls k d).ended) =
    λ k d within. (
      λ e. (let some = list_any_at (uses x) calls k d within (or_left _ _ (eq-eqb _ _ (sym e))) in absurd cc),
      λ e. (let some = list_any_at (uses x) calls k d within (or_right _ _ (eq-eqb _ _ (sym e))) in absurd cc),
    ) in
    let fits = length-le_from_distinct_below (x ∷ numbers_of calls) (2 * length calls) (apart other) (λ q e. ⊎_elim
    (λ own. let at : q ≡ x = eqb-true _ _ own in omega (arith, at, lt)) (below (2 * length calls) calls backs ends q) (or_cases _ _ e)) in
    let long = length-numbers_of calls in
    omega (arith, fits, long))
  where
    apart : ((k : ℕ) (d : Timed) → k < length calls → (x ≢ (get_or calls k d).begun) × (x ≢ (get_or calls k d).ended)) → IsDistinct eqb (x ∷ numbers_of calls)
    apart other = (differs x calls other, distinct calls backs once)

pub lines_are_calls : (ranks : List ℕ) (lines : List (List ℕ)) (calls : List Timed) → calls_of ranks lines ≡ Ok calls → AreCalls ranks calls
lines_are_calls ranks lines calls e =
    let far = far_all ranks lines [] calls (far_none ranks) e in
    let zero : Timed = record { session = 0; line = 0; begun = 0; ended = 0; rank = 0 } in
    let long : length (map (λ call. call.rank) calls) ≡ length ranks = length-map calls (λ (call : Timed). call.rank) ∙ far.1 in
    record {
      ranked = ext_get_or 0 (map (λ call. call.rank) calls) ranks long (λ i lt.
          let within : i < length calls = omega (arith, lt, length-map calls (λ (call : Timed). call.rank)) in
          get_or-map (λ (call : Timed). call.rank) calls i zero 0 within ∙ sym (get_or_from_slice_get ranks i (get_or calls i zero).rank 0 (far.0.ranked i zero within)));
      backs = far.0.good.backs;
      below = far.0.good.below;
      once = far.0.once;
      each = λ x lt. each_used calls far.0.good.backs (subst (λ n. All (λ call. call.ended < 2 * n) calls) (sym far.1) far.0.good.below) far.0.once x
          (subst (λ n. x < 2 * n) (sym far.1) lt);
    }

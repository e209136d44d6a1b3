-- Whether calls stand in the order in which they were made.
use Rattle.std.proofs.Common.{◌≡◌, ◌≢◌, ◌⊎◌, ℕ, ◌+◌, ◌-◌, ◌^◌, ◌<◌, ◌≤◌, min, Bool, true, false, ◌&&◌, ltb, List, length, get_or, set, replicate, sym, ap, subst, ◌∙◌, arith, Contains, inl, inr, ⊎_elim}
use Rattle.std.proofs.lemmas.Bool.{ltb-true, lt-ltb, and_from, and_parts, cases_eq, cases_lt, false_from_ne_true}
use Rattle.std.proofs.lemmas.List.{length-set, get_or-set_other, get_or-replicate, length-replicate}
use Rattle.std.proofs.lemmas.Grind.{get_or-set_at}
use Rattle.std.proofs.lemmas.List.Folds.{Any-from_list_any}
use Rattle.realtime.specs.declared.histories.Timed.{Timed}
use Rattle.realtime.specs.RealTime.{is_misplaced}
use Rattle.realtime.specs.Judging.{AreGood, AreLeast, IsOnly}
use Rattle.realtime.proofs.Turning.{some_passes}

-- a rank that no call has
abbrev pub no_rank : ℕ
no_rank = 2 ^ 128 - 1

-- the call was back before another began, but stands behind it
abbrev pub stands_behind : Timed → Timed → Bool
stands_behind call later = ltb call.ended later.begun && ltb later.rank call.rank

-- ---- from the last number to the first

pub least_none : (numbers : ℕ) (calls : List Timed) → AreGood numbers calls → AreLeast calls numbers (replicate (numbers + 1) no_rank)
least_none numbers calls good = record {
  low = λ x b has from to. absurd (let back = subst (λ (t : Timed). t.begun < t.ended) has.2 (good.backs has.0 b has.1) in
      let low = subst (λ (t : Timed). t.ended < numbers) has.2 (good.below has.0 b has.1) in omega (arith, back, low, from, to));
  some = λ x lt. inl (get_or-replicate (numbers + 1) x no_rank 0 (let long = length-replicate {A = ℕ} (numbers + 1) no_rank in omega (arith, lt, long)));
}

-- a rank is the least of the calls that begin at this number or later
pub record IsLeast (calls : List Timed) (x rank : ℕ) : Type 0 where
  pub low : (b : Timed) → Contains calls b → x ≤ b.begun → rank ≤ b.rank
  pub some : (rank ≡ no_rank) ⊎ ((b : Timed) × Contains calls b × (x ≤ b.begun) × (b.rank ≡ rank))

module _ (calls : List Timed) (x : ℕ) (least : List ℕ) (h : AreLeast calls (x + 1) least) (inner : x + 1 < length least) where
  abbrev later : ℕ
  later = get_or least (x + 1) 0

  pub least_later : ((b : Timed) → Contains calls b → b.begun ≢ x) → IsLeast calls x later
  least_later none = record {
    low = λ b has from. h.low (x + 1) b has (omega arith) (let other = none b has in omega (arith, other, from));
    some = ⊎_elim inl (λ w. inr (w.0, w.1, omega (arith, w.2), w.3)) (h.some (x + 1) inner);
  }

  pub least_own : (call : Timed) → call.begun ≡ x → IsOnly calls call → IsLeast calls x (min later call.rank)
  least_own call begun only = record {
    low = λ b has from. ⊎_elim
        (λ more. let low = h.low (x + 1) b has (omega arith) (omega (arith, more)) in omega (arith, low))
        (λ here. let same : b ≡ call = only.only b has (omega (arith, here, from, begun)) in let rank = ap (λ (t : Timed). t.rank) same in omega (arith, rank))
        (cases_lt x b.begun);
    some = ⊎_elim
        (λ less. let is : min later call.rank ≡ later = omega (arith, less) in
        ⊎_elim (λ z. inl (is ∙ z)) (λ w. inr (w.0, w.1, omega (arith, w.2), w.3 ∙ sym is)) (h.some (x + 1) inner))
        (λ le. inr (call, only.one, omega (arith, begun), (let is : call.rank ≡ min later call.rank = omega (arith, le) in is)))
        (cases_lt later call.rank);
  }

  pub least_next : (rank : ℕ) → IsLeast calls x rank → AreLeast calls x (set least x rank)
  least_next rank is = record {
    low = λ y b has from to. ⊎_elim
        (λ here. let at = get_or-set_at least x y rank 0 here inside in let low = is.low b has (omega (arith, here, to)) in omega (arith, at, low))
        (λ n. let at = get_or-set_other least x y rank 0 n in let low = h.low y b has (omega (arith, n, from)) to in omega (arith, at, low))
        (cases_eq y x);
    some = λ y lt. ⊎_elim
        (λ here. let at = get_or-set_at least x y rank 0 here inside in
        ⊎_elim (λ z. inl (at ∙ z)) (λ w. inr (w.0, w.1, omega (arith, w.2, here), w.3 ∙ sym at)) is.some)
        (λ n. let at = get_or-set_other least x y rank 0 n in
        ⊎_elim (λ z. inl (at ∙ z)) (λ w. inr (w.0, w.1, w.2, w.3 ∙ sym at)) (h.some y (let long = length-set least x rank in omega (arith, long, lt))))
        (cases_eq y x);
  }
    where
      inside : x < length least
      inside = omega (arith, inner)

-- ---- the calls against the least ranks

module _ (calls : List Timed) (least : List ℕ) (h : AreLeast calls 0 least) (a : Timed) where
  pub misplaced : a.ended + 1 < length least → a.rank ≤ no_rank → get_or least (a.ended + 1) 0 < a.rank → is_misplaced calls a ≡ true
  misplaced inside most lt = ⊎_elim
      (λ z. absurd (omega (arith, z, most, lt)))
      (λ w. let begun : a.ended < w.0.begun = omega (arith, w.2) in
      let less : w.0.rank < a.rank = omega (arith, w.3, lt) in
      some_passes (stands_behind a) calls w.0 w.1 (and_from _ _ (lt-ltb _ _ begun) (lt-ltb _ _ less)))
      (h.some (a.ended + 1) inside)

  pub placed : a.rank ≤ get_or least (a.ended + 1) 0 → is_misplaced calls a ≡ false
  placed le = false_from_ne_true _ (λ out.
      let some = Any-from_list_any (stands_behind a) calls out in
      let b : Timed = some.1 in
      let has : Contains calls b = (some.0, some.2, some.3) in
      let parts = and_parts _ _ some.4 in
      let begun : a.ended < b.begun = ltb-true _ _ parts.0 in
      let less : b.rank < a.rank = ltb-true _ _ parts.1 in
      let low : get_or least (a.ended + 1) 0 ≤ b.rank = h.low (a.ended + 1) b has (omega arith) (omega (arith, begun)) in
      omega (arith, le, low, less))

-- What the shelf of two sessions is opened with, and gives back.
use Rattle.std.proofs.Common.{◌≡◌, ℕ, zero, suc, ◌+◌, ◌*◌, ◌<◌, ◌≤◌, ◌%◌, ◌^◌, List, [], ◌∷◌, ◌++◌, length, take, sym, refl, ap, ◌∙◌, subst, arith, Option, Some, None}
use Rattle.std.specs.Option.{option_to_list, unwrap_or}
use Rattle.std.specs.Prelude.{Bool, true, false, IsSome}
use mathlib.Core.Option.{some-injective}
use lib.ListN.{get_elem?}
use Rattle.ownlock.specs.declared.known.Known.{Known}
use Rattle.ownlock.specs.Seats.{At, SeatView, Opened}
use Rattle.ownlock.specs.Knowledge.{AllAgree, Closes}
use Rattle.example_sums.specs.declared.kinds.Progress.{Progress}
use Rattle.example_sums.specs.declared.kinds.Numbers as numbers
use Rattle.example_sums.specs.declared.kinds.RunningSum as sums
use Rattle.example_sums.specs.declared.kinds.Value.{Value}
use Rattle.example_sums.specs.declared.kinds.Value.TheVariants.{List as TheList, Sum}
use Rattle.example_sums.specs.Sums.{sum_rules, total, AgreesWith, Counted, fresh, empty_progress}

-- the two items of a list, taken from its end
pub two_items : {A : Type 0} (vs r s : List A) (a b : A) → length vs ≡ 2 → vs ≡ r ++ b ∷ [] → r ≡ s ++ a ∷ [] → At 0 a vs × At 1 b vs
two_items vs r s a b long e f = found s vs (e ∙ ap (λ z. z ++ b ∷ []) f) long
  where
    found : (s vs : List _) → vs ≡ (s ++ a ∷ []) ++ b ∷ [] → length vs ≡ 2 → At 0 a vs × At 1 b vs
    found [] vs e long = (ap (λ l. get_elem? l 0) e, ap (λ l. get_elem? l 1) e)
    found (x ∷ xs) vs e long = let much = ap length e in absurd (omega (arith, much, long, more xs))
      where
        more : (xs : List _) → 2 ≤ length ((xs ++ a ∷ []) ++ b ∷ [])
        more [] = omega arith
        more (y ∷ ys) = let h = more ys in omega (arith, h)

pair_total : (ns : List ℕ) (a b : ℕ) → length ns ≡ 2 → At 0 a ns → At 1 b ns → total ns ≡ a + b
pair_total [] a b long e f = absurd (omega (arith, long))
pair_total (x ∷ []) a b long e f = absurd (omega (arith, long))
pair_total (x ∷ y ∷ []) a b long e f = let one = some-injective x a e in let two = some-injective y b f in sums x y a b one two
  where
    sums : (x y a b : ℕ) → x ≡ a → y ≡ b → x + (y + 0) ≡ a + b
    sums x y a b e f = omega (arith, e, f)
pair_total (x ∷ y ∷ z ∷ zs) a b long e f = absurd (omega (arith, long))

from_some : (x y : Value) → Some x ≡ Some y → x ≡ y
from_some x y e = ap (λ o. unwrap_or o x) e

module _ (opened : Opened Progress ℕ) (view : List (Known Progress ℕ Value)) (slots : List (Option Value)) (closes : Closes sum_rules opened view slots) where
  there : (p : ℕ) (x : Value) → p < length slots → At p (Some x) slots → AgreesWith p closes.0 closes.1 x
  there p x below at = let t = closes.5 p below in subst (λ z. AgreesWith p closes.0 closes.1 z) (from_some t.0 x (some-injective _ _ (sym t.1 ∙ at))) t.2

  pub listed : (one other : SeatView Progress ℕ Value) (count : ℕ) (list : numbers.Numbers) → length opened.notes ≡ 2 → view ≡ one.sessions ++ other.sessions → Counted one (fresh 0) count → Counted other (fresh 1) count → length slots ≡ 2 → At 0 (Some (TheList list)) slots
      → length list.items.items ≡ 2 * count
  listed one other count list few is c d long at =
      let two : view ≡ c.0 ∷ d.0 ∷ [] = is ∙ (λ i. c.1 i ++ d.1 i) in
      let a = subst (λ z. At z c.0.note closes.1) c.2 (closes.4 0 c.0 (ap (λ l. get_elem? l 0) two)).1 in
      let b = subst (λ z. At z d.0.note closes.1) d.2 (closes.4 1 d.0 (ap (λ l. get_elem? l 1) two)).1 in
      let n = pair_total closes.1 c.0.note d.0.note (closes.3 ∙ few) a b in
      let items = (there 0 (TheList list) (omega (arith, long)) at).1 in
      let w = closes.2.0 in let x = c.4 in let y = d.4 in
      omega (arith, ap length items, w, n, x, y)

  -- the sum is that of as many numbers of the list as it says
  pub summed : (list : numbers.Numbers) (sum : sums.RunningSum) → length slots ≡ 2 → At 0 (Some (TheList list)) slots
      → At 1 (Some (Sum sum)) slots
      → (sum.tail ≤ length list.items.items) × (sum.sum ≡ total (take sum.tail list.items.items) % 2 ^ 64)
  summed list sum long first last =
      let items = (there 0 (TheList list) (omega (arith, long)) first).1 in
      let agrees = there 1 (Sum sum) (omega (arith, long)) last in
      let low = closes.2.1 in
      let far = agrees.1 in
      (omega (arith, far, low, ap length items), agrees.2 ∙ ap (λ z. total (take sum.tail z) % 2 ^ 64) (sym items))

-- the value at the second place is the sum, and that at the first the list
module _ (opened : Opened Progress ℕ) (view : List (Known Progress ℕ Value)) (slots : List (Option Value))
    (closes : Closes sum_rules opened view slots) (long : length slots ≡ 2) where
  pub last_sum : (sum : sums.RunningSum) × At 1 (Some (Sum sum)) slots × AgreesWith 1 closes.0 closes.1 (Sum sum)
  last_sum = let t = closes.5 1 (omega (arith, long)) in by t.0 t.1 t.2
    where
      by : (x : Value) → At 1 (Some x) slots → AgreesWith 1 closes.0 closes.1 x → (sum : sums.RunningSum)
          × At 1 (Some (Sum sum)) slots × AgreesWith 1 closes.0 closes.1 (Sum sum)
      by (TheList list) at agrees = let no = agrees.0 in absurd (omega (arith, no))
      by (Sum sum) at agrees = (sum, at, agrees)

  pub first_list : (list : numbers.Numbers) × At 0 (Some (TheList list)) slots
      × AgreesWith 0 closes.0 closes.1 (TheList list)
  first_list = let t = closes.5 0 (omega (arith, long)) in by t.0 t.1 t.2
    where
      by : (x : Value) → At 0 (Some x) slots → AgreesWith 0 closes.0 closes.1 x → (list : numbers.Numbers)
          × At 0 (Some (TheList list)) slots × AgreesWith 0 closes.0 closes.1 (TheList list)
      by (TheList list) at agrees = (list, at, agrees)
      by (Sum sum) at agrees = absurd (agrees.0 refl)

  pub pops_sum : (r : List (Option Value)) (o : Option (Option Value)) → slots ≡ r ++ option_to_list o → IsSome o
      → o ≡ Some (Some (Sum last_sum.0))
  pops_sum r None e some = absurd (let no : false ≡ true = some in cc)
  pops_sum [] (Some a) e some = let few = ap length e in absurd (omega (arith, few, long))
  pops_sum (x ∷ []) (Some a) e some = ap Some (some-injective _ _ (sym (ap (λ l. get_elem? l 1) e) ∙ last_sum.1))
  pops_sum (x ∷ y ∷ ys) (Some a) e some = let much = ap length e in absurd (omega (arith, much, long, more ys))
    where
      more : (ys : List _) → 1 ≤ length (ys ++ a ∷ [])
      more [] = omega arith
      more (z ∷ zs) = omega arith

  pub pops_list : (r : List (Option Value)) (o : Option (Option Value)) (b : Option Value) → slots ≡ r ++ b ∷ []
      → (s : List (Option Value)) → r ≡ s ++ option_to_list o → IsSome o → o ≡ Some (Some (TheList first_list.0))
  pops_list r None b e s f some = absurd (let no : false ≡ true = some in cc)
  pops_list r (Some a) b e [] f some =
      ap Some (some-injective _ _ (sym (ap (λ l. get_elem? l 0) (e ∙ ap (λ l. l ++ b ∷ []) f)) ∙ first_list.1))
  pops_list r (Some a) b e (x ∷ xs) f some = let much =
      ap length (e ∙ ap (λ l. l ++ b ∷ []) f) in absurd (omega (arith, much, long, more xs))
    where
      more : (xs : List _) → 2 ≤ length ((xs ++ a ∷ []) ++ b ∷ [])
      more [] = omega arith
      more (y ∷ ys) = let h = more ys in omega (arith, h)

pub first_agree : (slots : List (Option Value)) (list : numbers.Numbers) (sum : sums.RunningSum) → slots ≡ Some (TheList list) ∷ Some (Sum sum) ∷ [] → list.items.items ≡ [] → sum.tail ≡ 0 → sum.sum ≡ 0 → AllAgree sum_rules empty_progress (0 ∷ 0 ∷ []) slots
first_agree slots list sum is items at zero_sum = subst (λ s. AllAgree sum_rules empty_progress (0 ∷ 0 ∷ []) s) (sym is) both
  where
    both : AllAgree sum_rules empty_progress (0 ∷ 0 ∷ []) (Some (TheList list) ∷ Some (Sum sum) ∷ [])
    both zero h = (TheList list, refl, (refl, items))
    both (suc zero) h = (Sum sum, refl, ((λ e. absurd (omega (arith, e))), omega (arith, at), zero_sum ∙ ap (λ z. total (take z (empty_progress.items)) % 2 ^ 64) (sym at)))
    both (suc (suc p)) h = absurd (omega (arith, h))

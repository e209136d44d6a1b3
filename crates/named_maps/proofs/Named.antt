-- The tests for the maps that a program names.
use Rattle.std.proofs.Common.{◌≡◌, ℕ, ◌+◌, ◌<◌, ◌≤◌, Bool, true, false, cond, List, length, get_or, Option, Some, None, refl, sym, ap, ◌∙◌, arith, subst, inl, inr, ⊎_elim, eq-eqb, bit_or}
use Rattle.std.specs.Prelude.{◌↔◌, ◌≢◌, ◌⊎◌, ◌*◌, ◌^◌, ◌%◌, pos, not, nat_eq, nat_lt, Contains, option_map}
use Rattle.std.specs.Int.{w16, bit_at}
use Rattle.std.specs.List.{list_any, position_or_len}
use Rattle.std.proofs.lemmas.Bool.{and_parts, cases_eq, eqb-true, false≢true, not-false}
use Rattle.std.proofs.lemmas.Bool.Decides.{nat_tests}
use Rattle.std.proofs.lemmas.List.{get_or_default}
use Rattle.std.proofs.lemmas.List.Elements.{Contains-get_or}
use Rattle.std.proofs.lemmas.List.Folds.{list_any_at, Any-from_list_any}
use Rattle.std.proofs.lemmas.List.Sums.{fails_before_first, passes_at_first, position_or_len_is}
use Rattle.std.proofs.lemmas.Nat.Bits.{bit_at_set_same, bit_at_set_other}
use Rattle.insn.specs.declared.instruction.Form.{Form}
use Rattle.insn.specs.declared.instruction.Form.TheVariants.{MapRef, Exit}
use Rattle.maps.specs.declared.shapes.TheConstants.{MAX_MAPS}
use Rattle.verifier.specs.Accepted.{Checked, IsAccepted, signature_of, slot_of}
use Rattle.verifier.specs.Rules.{is_map_index}
use Rattle.verifier.proofs.Export.{read, stands_in, unbroken_rules}
use Rattle.machine.specs.Effects.{effect_of}
use Rattle.machine.specs.Isolation.{NamesMap, AgreeIn}
use Rattle.machine.proofs.Export.{are_runs, others_stay, others_unseen}
use Rattle.named_maps.specs.Naming.{IsIn, NamesOnly, map_named, outside_of, is_outside, first_outside, is_low, names, names_here, NamingIsTested, OthersStay, OthersAreUnseen}

-- ---- the map of one reference

-- a reference to map m, where the instruction loads it
reference : (i : Form) (m : ℕ) → map_named i ≡ Some m → (dst : ℕ) × (i ≡ MapRef dst (pos m))
reference (MapRef dst (pos k)) m e = let same : k ≡ m = cc in (dst, ap (λ j. MapRef dst (pos j)) same)
reference i m e = absurd cc

-- it is one of the program's
named_by : (p : List Form) (i : Form) (m : ℕ) → Contains p i → map_named i ≡ Some m → NamesMap p m
named_by p i m within e = let r = reference i m e in (r.0, subst (Contains p) r.1 within)

-- ---- the first reference outside

outside_is : (maps : ℕ) (o : Option ℕ) → outside_of maps o ≡ true → (m : ℕ) × (o ≡ Some m) × (bit_at maps m ≢ 1)
outside_is maps None e = absurd (false≢true e)
outside_is maps (Some m) e = (m, refl, λ set. let on = eq-eqb (bit_at maps m) 1 set in absurd (grind arith))

inside_is : (maps m : ℕ) → not (nat_eq (bit_at maps m) 1) ≡ false → bit_at maps m ≡ 1
inside_is maps m e = grind (arith, nat_tests)

-- none is outside: each instruction before the end passes
none_only : (maps : ℕ) (p : List Form) → length p ≤ position_or_len (is_outside maps) p → NamesOnly maps p
none_only maps p all m (dst, (k, lt, is)) =
    let passes : is_outside maps (get_or p k (MapRef dst (pos m))) ≡ false = fails_before_first (is_outside maps) p k (MapRef dst (pos m)) (omega arith) in
    inside_is maps m (sym (ap (is_outside maps) is) ∙ passes)

some_not_only : (maps : ℕ) (p : List Form) → position_or_len (is_outside maps) p < length p → NamesOnly maps p → ⊥
some_not_only maps p lt only =
    let i = position_or_len (is_outside maps) p in
    let bad = outside_is maps (map_named (get_or p i Exit)) (passes_at_first (is_outside maps) p Exit lt) in
    bad.2 (only bad.0 (named_by p (get_or p i Exit) bad.0 (Contains-get_or p i Exit lt) bad.1))

pub tested : NamingIsTested
tested maps p = by (nat_lt (position_or_len (is_outside maps) p) (length p)) refl
  where
    by : (b : Bool) → nat_lt (position_or_len (is_outside maps) p) (length p) ≡ b
        → (option_map (slot_of p) (cond b (Some (position_or_len (is_outside maps) p)) None) ≡ None) ↔ NamesOnly maps p
    by true e = (
      λ h. absurd (some≢none h),
      λ only. let lt : position_or_len (is_outside maps) p < length p = grind (arith, nat_tests) in absurd (some_not_only maps p lt only),
    )
      where
        some≢none : {n : ℕ} → Some n ≡ None → ⊥
        some≢none h = absurd cc
    by false e = (λ _. let le : length p ≤ position_or_len (is_outside maps) p = grind (arith, nat_tests) in none_only maps p le, λ _. refl)

-- what the search answers, by where it stopped
answer_at : (maps : ℕ) (p : List Form) (k : ℕ) (b : Bool) → position_or_len (is_outside maps) p ≡ k → nat_lt k (length p) ≡ b
    → first_outside maps p ≡ option_map (slot_of p) (cond b (Some k) None)
answer_at maps p k b at e =
    ap (λ j. option_map (slot_of p) (cond (nat_lt j (length p)) (Some j) None)) at ∙ ap (λ c. option_map (slot_of p) (cond c (Some k) None)) e

module _ (maps : ℕ) (p : List Form) (k : ℕ) (before : (j : ℕ) → j < k → is_outside maps (get_or p j Exit) ≡ false) where
  pub found_outside : (slot : ℕ) (x : Form) → k < length p → x ≡ get_or p k x → slot ≡ slot_of p k → is_outside maps x ≡ true → Some slot ≡ first_outside maps p
  found_outside slot x lt is at here =
      let passes : k < length p → is_outside maps (get_or p k Exit) ≡ true = λ _. ap (is_outside maps) (get_or_default p k Exit x lt ∙ sym is) ∙ here in
      let n = position_or_len_is (is_outside maps) p k Exit (omega arith) before passes in
      let yes : nat_lt k (length p) ≡ true = grind (arith, nat_tests) in
      ap Some at ∙ sym (answer_at maps p k true n yes)

  pub none_outside : k ≡ length p → None ≡ first_outside maps p
  none_outside end =
      let n = position_or_len_is (is_outside maps) p k Exit (omega (arith, end)) before (λ lt. absurd (omega (arith, end, lt))) in
      let no : nat_lt k (length p) ≡ false = grind (arith, nat_tests) in
      sym (answer_at maps p k false n no)

  pub passed_on : (x : Form) → k < length p → x ≡ get_or p k x → is_outside maps x ≡ false → (j : ℕ) → j < k + 1 → is_outside maps (get_or p j Exit) ≡ false
  passed_on x lt is here j below =
      ⊎_elim (λ e. ap (λ i. is_outside maps (get_or p i Exit)) e ∙ ap (is_outside maps) (get_or_default p k Exit x lt ∙ sym is) ∙ here)
      (λ ne. before j (omega (arith, below, ne))) (cases_eq j k)

-- ---- the maps that are named

-- it is one of these, as a test
abbrev refers_to : ℕ → Option ℕ → Bool
refers_to m None = false
refers_to m (Some k) = nat_eq k m

named_or_not : (p : List Form) (m : ℕ) → NamesMap p m ⊎ (¬ NamesMap p m)
named_or_not p m = by (list_any test p) refl
  where
    test : Form → Bool
    test i = refers_to m (map_named i)

    is : (o : Option ℕ) → refers_to m o ≡ true → o ≡ Some m
    is None e = absurd (false≢true e)
    is (Some k) e = ap Some (eqb-true k m e)

    by : (b : Bool) → list_any test p ≡ b → NamesMap p m ⊎ (¬ NamesMap p m)
    by true e = let some = Any-from_list_any test p e in inl (named_by p some.1 m (some.0, some.2, some.3) (is (map_named some.1) some.4))
    by false e = inr (λ (dst, (k, lt, at)). let yes = list_any_at test p k (MapRef dst (pos m)) lt (ap test at ∙ eq-eqb m m refl) in absurd (false≢true (sym e ∙ yes)))

-- ---- bits

-- the first 16 bits of a set to which one was added
pub set_bit : (maps k : ℕ) → k < 16 → (m : ℕ) → IsIn (bit_or maps (1 * 2 ^ k % 65536)) m ↔ (IsIn maps m ⊎ is_low m (Some k) ≡ true)
set_bit maps k lt m = ⊎_elim same other (cases_eq m k)
  where
    same : m ≡ k → IsIn (bit_or maps (1 * 2 ^ k % 65536)) m ↔ (IsIn maps m ⊎ is_low m (Some k) ≡ true)
    same e = (
      λ _. let low : is_low m (Some k) ≡ true = grind (arith, nat_tests) in inr low,
      λ _. ap (bit_at (bit_or maps (1 * 2 ^ k % 65536))) e ∙ bit_at_set_same w16 maps k lt,
    )

    other : m ≢ k → IsIn (bit_or maps (1 * 2 ^ k % 65536)) m ↔ (IsIn maps m ⊎ is_low m (Some k) ≡ true)
    other ne =
        let kept = bit_at_set_other w16 maps k lt m ne in
        (λ h. inl (sym kept ∙ h), λ h. ⊎_elim (λ was. kept ∙ was) (λ low. absurd (ne (sym (eqb-true k m (and_parts (nat_eq k m) (nat_lt m MAX_MAPS) low).0)))) h)

-- ---- an accepted program names few maps

-- a reference in it is to one of its maps
known : (a : Checked) → IsAccepted a → (m : ℕ) → NamesMap a.program m → m < MAX_MAPS
known a ok m (dst, (k, lt, at)) =
    let t = ok.typable in
    let i = MapRef dst (pos m) in
    let stands = stands_in a.program k i (read a.program k (get_or a.program k i) i lt (ap (get_or a.program k) (sym at)) (sym at)) in
    let unbroken = t.1.1.each i (slot_of a.program k) stands in
    let index = not-false (is_map_index (signature_of a) (pos m)) (unbroken_rules (signature_of a) i (t.1.0 (slot_of a.program k)) unbroken).1.1.1.1.1.1.1.1.1.1.0 in
    let few = ok.shapes.many.1 in
    let below : m < length a.shapes = grind (arith, nat_tests) in
    omega (arith, below, few)

low_is : (m : ℕ) (o : Option ℕ) → is_low m o ≡ true → o ≡ Some m
low_is m None e = absurd (false≢true e)
low_is m (Some k) e = ap Some (eqb-true k m (and_parts (nat_eq k m) (nat_lt m MAX_MAPS) e).0)

pub names_are : (a : Checked) → IsAccepted a → (m : ℕ) → (names m a.program ≡ true) ↔ NamesMap a.program m
names_are a ok m = (
  λ e. let some = Any-from_list_any (names_here m) a.program e in named_by a.program some.1 m (some.0, some.2, some.3) (low_is m (map_named some.1) some.4),
  back,
)
  where
    back : NamesMap a.program m → names m a.program ≡ true
    back (dst, (k, lt, at)) =
        let below = known a ok m (dst, (k, lt, at)) in
        let low : is_low m (Some m) ≡ true = grind (arith, nat_tests) in
        list_any_at (names_here m) a.program k (MapRef dst (pos m)) lt (ap (names_here m) at ∙ low)

-- ---- what such a program does

pub others_stay_by_effect : OthersStay
others_stay_by_effect allowed p maps argument e only does m out =
    let run = (are_runs p maps argument e).0 does in
    others_stay p maps e.maps argument e.steps e.reply run.runs m (λ named. out (only m named))

pub others_unseen_by_effect : OthersAreUnseen
others_unseen_by_effect allowed p maps ms argument e only agree does =
    let run = (are_runs p maps argument e).0 does in
    let alike = others_unseen p maps ms e.maps argument e.steps e.reply (λ m named. agree m (only m named)) run.runs in
    let left = alike.0 in
    let done = effect_of e.steps e.reply left in
    let same : AgreeIn (IsIn allowed) e.maps left = λ m within.
    ⊎_elim (λ named. alike.2 m named)
    (λ not_named.
    others_stay p maps e.maps argument e.steps e.reply run.runs m not_named ∙ agree m within
    ∙ sym (others_stay p ms left argument e.steps e.reply alike.1 m not_named))
    (named_or_not p m) in
    (done, (are_runs p ms argument done).1 (record { runs = alike.1; few = run.few }), refl, refl, same)

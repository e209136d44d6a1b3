-- The computed fault is the one at the lowest slot, and a program without one is structured.
use Rattle.std.proofs.Common.{◌≡◌, ℕ, zero, suc, ◌<◌, true, false, cond, List, Option, Some, None, refl, sym, ap, ◌∙◌, inl, inr, ⊎_elim, arith, subst}
use Rattle.std.specs.Prelude.{◌⊎◌, ◌↔◌, nat_lt, nat_le, slice_get, option_and_then}
use Rattle.std.proofs.lemmas.Bool.{false≢true, cases_Bool, cases_order, and_parts, ltb-true, leb-true, ltb-false, leb-false, and_cases}
use Rattle.std.proofs.lemmas.Option.{slice_get_within, none-some}
use Rattle.insn.specs.declared.instruction.Form.{Form}
use Rattle.insn.specs.Layout.{layout, size, instruction_at}
use Rattle.flow.specs.declared.rules.StructureRule.{StructureRule}
use Rattle.flow.specs.declared.rules.StructureRule.TheVariants.{RunsOffTheEnd}
use Rattle.flow.specs.Structure.{StandsAt, Breaks, rule_number, HasGoodSize, HasBadSize, IsUnbroken, IsStructured, BreaksFirst, FirstBroken}
use Rattle.flow.specs.declared.rules.Broken.{Broken}
use Rattle.flow.specs.Faults.{fault, is_second_half, is_reached, is_broken, first_rule, rule_at, or_fault_at, lowest_fault, has_good_size, structure_fault}
use Rattle.flow.proofs.Reach.{last_or_below}
use Rattle.flow.proofs.Order.{breaks_from_test, test_from_breaks, none_found, first_found, same_rule}

-- ---- an instruction's slot is one of the program's

standing : (o : Option (Option Form)) (i : Form) → option_and_then (λ x. x) o ≡ Some i → o ≡ Some (Some i)
standing None i h = cc
standing (Some None) i h = cc
standing (Some (Some j)) i h = ap Some h

pub stands_within : (p : List Form) (i : Form) (s : ℕ) → StandsAt p i s → s < size p
stands_within p i s h = slice_get_within (layout p) s (Some i) (standing (slice_get (layout p) s) i h)

pub same_instruction : (p : List Form) (i j : Form) (s t : ℕ) → s ≡ t → StandsAt p i s → StandsAt p j t → i ≡ j
same_instruction p i j s t e h g = let m : Some i ≡ Some j = sym h ∙ ap (instruction_at p) e ∙ g in cc

-- ---- the rules at one slot

abbrev first_at : List Form → ℕ → Form → Option StructureRule
first_at p s i = first_rule (size p) (is_second_half p) (is_reached p s) i s

pub none_at : (p : List Form) (i : Form) (s : ℕ) → StandsAt p i s → rule_at p s ≡ None → (rule : StructureRule) → Breaks rule p i s → ⊥
unfolding first_rule
none_at p i s stands h rule breaks =
    let none = sym (ap (option_and_then (first_at p s)) stands) ∙ h in
    false≢true (sym (none_found (is_broken (size p) (is_second_half p) (is_reached p s) i s) none rule) ∙ test_from_breaks p i s rule breaks)

-- i is the instruction at s, and the rule is the first that it breaks
record BreaksAt (p : List Form) (s : ℕ) (rule : StructureRule) (i : Form) : Type 0 where
  stands : StandsAt p i s
  broken : Breaks rule p i s
  lowest : (other : StructureRule) → rule_number other < rule_number rule → Breaks other p i s → ⊥

chosen : (p : List Form) (s : ℕ) (rule : StructureRule) (o : Option Form) → instruction_at p s ≡ o → option_and_then (first_at p s) o ≡ Some rule → (i : Form) × BreaksAt p s rule i
unfolding first_rule
chosen p s rule None e h = cc
chosen p s rule (Some i) e h =
    let is_first = first_found _ rule h in (
      i,
      record {
        stands = e;
        broken = breaks_from_test p i s rule is_first.holds;
        lowest = λ other lt breaks. false≢true (sym (is_first.lower other lt) ∙ test_from_breaks p i s other breaks);
      },
    )

some_at : (p : List Form) (s : ℕ) (rule : StructureRule) → rule_at p s ≡ Some rule → (i : Form) × BreaksAt p s rule i
some_at p s rule h = chosen p s rule (instruction_at p s) refl h

-- ---- the slots in order

or_none : (s : ℕ) (rule : Option StructureRule) (o : Option Broken) → or_fault_at s rule o ≡ None → (rule ≡ None) × (o ≡ None)
or_none s rule (Some f) h = cc
or_none s (Some v) None h = cc
or_none s None None h = (refl, refl)

or_some : (s : ℕ) (rule : Option StructureRule) (o : Option Broken) (f : Broken) → or_fault_at s rule o ≡ Some f → (o ≡ Some f) ⊎ ((o ≡ None) × (v : StructureRule) × (rule ≡ Some v) × (fault s v ≡ f))
or_some s rule (Some g) f h = inl h
or_some s (Some v) None f h = inr (refl, v, refl, cc)
or_some s None None f h = cc

unbroken_more : (p : List Form) (k : ℕ) → IsUnbroken p (λ t. t < k) → rule_at p k ≡ None → IsUnbroken p (λ t. t < suc k)
unbroken_more p k below here = λ i t lt stands rule breaks.
    ⊎_elim
    (λ less. below i t less stands rule breaks)
    (λ e. none_at p i t stands (ap (rule_at p) e ∙ here) rule breaks)
    (last_or_below t k lt)

pub unbroken_below : (p : List Form) (k : ℕ) → lowest_fault p k ≡ None → IsUnbroken p (λ t. t < k)
unfolding lowest_fault
unbroken_below p zero h = λ i t lt stands rule breaks. absurd (omega (arith, lt))
unbroken_below p (suc k) h =
    let both = or_none k (rule_at p k) (lowest_fault p k) h in
    unbroken_more p k (unbroken_below p k both.1) both.0

broken_here : (p : List Form) (k : ℕ) (v : StructureRule) → HasGoodSize p → IsUnbroken p (λ t. t < k) → rule_at p k ≡ Some v → (i : Form) × BreaksFirst p i k v
broken_here p k v good below h =
    let at = some_at p k v h in
    (at.0, record { size_good = good; stands = at.1.stands; broken = at.1.broken; lowest_slot = below; lowest_number = at.1.lowest })

pub broken_first : (p : List Form) (k : ℕ) (f : Broken) → HasGoodSize p → lowest_fault p k ≡ Some f → (i : Form) × BreaksFirst p i f.slot f.rule
unfolding lowest_fault
broken_first p zero f good h = cc
broken_first p (suc k) f good h =
    ⊎_elim
    (λ lower. broken_first p k f good lower)
    (λ (none, v, here, e). subst (λ g. (i : Form) × BreaksFirst p i g.slot g.rule) e (broken_here p k v good (unbroken_below p k none) here))
    (or_some k (rule_at p k) (lowest_fault p k) f h)

-- ---- the size

good_size : (p : List Form) → has_good_size p ≡ true → HasGoodSize p
good_size p h = let both = and_parts _ _ h in record { some = ltb-true 0 (size p) both.0; few = leb-true (size p) 4096 both.1 }

bad_size : (p : List Form) → has_good_size p ≡ false → HasBadSize p
bad_size p h =
    ⊎_elim
    (λ none. inl (omega (arith, ltb-false 0 (size p) none)))
    (λ many. inr (omega (arith, leb-false (size p) 4096 many)))
    (and_cases (nat_lt 0 (size p)) (nat_le (size p) 4096) h)

not_both : (p : List Form) → HasBadSize p → HasGoodSize p → ⊥
not_both p (inl none) good = omega (arith, none, good.some)
not_both p (inr many) good = omega (arith, many, good.few)

-- ---- the two answers

pub structured_from_fault : (p : List Form) → structure_fault p ≡ None → IsStructured p
unfolding structure_fault
structured_from_fault p h =
    ⊎_elim
    (λ good.
    let none = unbroken_below p (size p) (sym (ap (λ b. cond b (lowest_fault p (size p)) (Some (fault 0 RunsOffTheEnd))) good) ∙ h) in
    record { size_good = good_size p good; each = λ i s at stands rule breaks. none i s (stands_within p i s stands) stands rule breaks })
    (λ bad. absurd (none-some _ (sym h ∙ ap (λ b. cond b (lowest_fault p (size p)) (Some (fault 0 RunsOffTheEnd))) bad)))
    (cases_Bool (has_good_size p))

pub broken_from_fault : (p : List Form) (f : Broken) → structure_fault p ≡ Some f → FirstBroken p f.slot f.rule
unfolding structure_fault
broken_from_fault p f h =
    ⊎_elim
    (λ good. inr (broken_first p (size p) f (good_size p good) (sym (ap (λ b. cond b (lowest_fault p (size p)) (Some (fault 0 RunsOffTheEnd))) good) ∙ h)))
    (λ bad.
    let e : Some (fault 0 RunsOffTheEnd) ≡ Some f = sym (ap (λ b. cond b (lowest_fault p (size p)) (Some (fault 0 RunsOffTheEnd))) bad) ∙ h in
    let same : fault 0 RunsOffTheEnd ≡ f = cc in
    inl (bad_size p bad, ap (λ g. g.slot) (sym same), ap (λ g. g.rule) (sym same)))
    (cases_Bool (has_good_size p))

pub broken_is_not_structured : (p : List Form) (s : ℕ) (rule : StructureRule) → FirstBroken p s rule → IsStructured p → ⊥
broken_is_not_structured p s rule (inl h) good = not_both p h.0 good.size_good
broken_is_not_structured p s rule (inr h) good = good.each h.0 s tt h.1.stands rule h.1.broken

same_first_rule : (p : List Form) (i : Form) (s : ℕ) (v w : StructureRule) → BreaksFirst p i s v → BreaksFirst p i s w → v ≡ w
same_first_rule p i s v w a b =
    ⊎_elim
    (λ e. same_rule v w e)
    (λ apart. ⊎_elim (λ lt. absurd (b.lowest_number v lt a.broken)) (λ lt. absurd (a.lowest_number w lt b.broken)) apart)
    (cases_order (rule_number v) (rule_number w))

same_first_slot : (p : List Form) (i j : Form) (s t : ℕ) (v w : StructureRule) → BreaksFirst p i s v → BreaksFirst p j t w → s ≡ t
same_first_slot p i j s t v w a b =
    ⊎_elim
    (λ e. e)
    (λ apart. ⊎_elim (λ lt. absurd (b.lowest_slot i s lt a.stands v a.broken)) (λ lt. absurd (a.lowest_slot j t lt b.stands w b.broken)) apart)
    (cases_order s t)

first_is_one : (p : List Form) (i j : Form) (s t : ℕ) (v w : StructureRule) → BreaksFirst p i s v → BreaksFirst p j t w → (s ≡ t) × (v ≡ w)
first_is_one p i j s t v w a b =
    let e = same_first_slot p i j s t v w a b in
    let i_is_j = same_instruction p i j s t e a.stands b.stands in
    let moved : BreaksFirst p i s w = subst (λ n. BreaksFirst p i n w) (sym e) (subst (λ k. BreaksFirst p k t w) (sym i_is_j) b) in
    (e, same_first_rule p i s v w a moved)

pub only_one_broken : (p : List Form) (s t : ℕ) (v w : StructureRule) → FirstBroken p s v → FirstBroken p t w → (s ≡ t) × (v ≡ w)
only_one_broken p s t v w (inl a) (inl b) = (a.1 ∙ sym b.1, a.2 ∙ sym b.2)
only_one_broken p s t v w (inl a) (inr b) = absurd (not_both p a.0 b.1.size_good)
only_one_broken p s t v w (inr a) (inl b) = absurd (not_both p b.0 a.1.size_good)
only_one_broken p s t v w (inr a) (inr b) = first_is_one p a.0 b.0 s t v w a.1 b.1

-- ---- the laws

no_fault : (p : List Form) (o : Option Broken) → structure_fault p ≡ o → IsStructured p → structure_fault p ≡ None
no_fault p None e good = e
no_fault p (Some f) e good = absurd (broken_is_not_structured p f.slot f.rule (broken_from_fault p f e) good)

pub no_fault_iff : (p : List Form) → (structure_fault p ≡ None) ↔ IsStructured p
no_fault_iff p = (structured_from_fault p, no_fault p (structure_fault p) refl)

named : (p : List Form) (s : ℕ) (rule : StructureRule) (o : Option Broken) → structure_fault p ≡ o → FirstBroken p s rule → structure_fault p ≡ Some (fault s rule)
named p s rule None e broken = absurd (broken_is_not_structured p s rule broken (structured_from_fault p e))
named p s rule (Some f) e broken =
    let same = only_one_broken p f.slot s f.rule rule (broken_from_fault p f e) broken in
    e ∙ ap (λ n. Some (fault n f.rule)) same.0 ∙ ap (λ v. Some (fault s v)) same.1

pub fault_iff : (p : List Form) (s : ℕ) (rule : StructureRule) → (structure_fault p ≡ Some (fault s rule)) ↔ FirstBroken p s rule
fault_iff p s rule = (broken_from_fault p (fault s rule), named p s rule (structure_fault p) refl)

-- The first of the rules that is broken, as it is computed, is the one of lowest number.
use Rattle.std.proofs.Common.{◌≡◌, ℕ, suc, ◌+◌, ◌<◌, Bool, true, false, cond, not, List, Option, Some, None, refl, sym, ap, ◌∙◌, ⊎_elim, arith, subst, eqb, eqb-true, eq-eqb}
use Rattle.std.specs.Prelude.{pos, find, slice_get}
use Rattle.std.proofs.lemmas.Bool.{false≢true, and_parts, and_from, lt-ltb, not-true, false_from_ne_true, cases_lt, cond_both}
use Rattle.insn.specs.declared.instruction.Form.{Form}
use Rattle.insn.specs.Layout.{layout, size, slot_count}
use Rattle.flow.specs.declared.rules.StructureRule.{StructureRule}
use Rattle.flow.specs.declared.rules.StructureRule.TheVariants.{TargetOutside, TargetNotForward, TargetInsideWide, RunsOffTheEnd, Unreachable}
use Rattle.flow.specs.Structure.{Breaks, rule_number}
use Rattle.flow.specs.Faults.{is_outside, is_backward, is_inside_wide, is_half, is_second_half, is_reached, is_broken, rules_in_order}
use Rattle.flow.proofs.Jumps.{jump_found, jump_tested, outside_is, is_outside_from, backward_is, is_backward_from, inside_is}
use Rattle.flow.proofs.Reach.{reached_from_test, test_from_reached}

-- ---- one rule

half_is : (o : Option (Option Form)) → is_half o ≡ true → o ≡ Some None
half_is None h = absurd (false≢true h)
half_is (Some None) h = refl
half_is (Some (Some i)) h = absurd (false≢true h)

abbrev Broken : List Form → Form → ℕ → StructureRule → Bool
Broken p i s rule = is_broken (size p) (is_second_half p) (is_reached p s) i s rule

pub breaks_from_test : (p : List Form) (i : Form) (s : ℕ) (rule : StructureRule) → Broken p i s rule ≡ true → Breaks rule p i s
breaks_from_test p i s TargetOutside h = let m = jump_found (is_outside (size p)) i s h in (m.0, m.1, outside_is (size p) m.0 m.2)
breaks_from_test p i s TargetNotForward h =
    let m = jump_found (is_backward s) i s h in
    let within = backward_is s m.0 m.2 in
    (m.0, m.1, within.0, within.1)
breaks_from_test p i s TargetInsideWide h =
    let m = jump_found (is_inside_wide (is_second_half p) s) i s h in
    let inside = inside_is (is_second_half p) s m.0 m.2 in
    (inside.0, (m.1.0, m.1.1, sym inside.1 ∙ m.1.2), inside.2, half_is (slice_get (layout p) inside.0) inside.3)
breaks_from_test p i s RunsOffTheEnd h = let both = and_parts _ _ h in (both.0, eqb-true (s + slot_count i) (size p) both.1)
breaks_from_test p i s Unreachable h = λ reached. false≢true (sym (not-true (is_reached p s) h) ∙ test_from_reached p s reached)

pub test_from_breaks : (p : List Form) (i : Form) (s : ℕ) (rule : StructureRule) → Breaks rule p i s → Broken p i s rule ≡ true
test_from_breaks p i s TargetOutside h = jump_tested (is_outside (size p)) i s h.0 h.1 (is_outside_from (size p) h.0 h.2)
test_from_breaks p i s TargetNotForward h = jump_tested (is_backward s) i s h.0 h.1 (is_backward_from s h.0 h.2 h.3)
test_from_breaks p i s TargetInsideWide h = jump_tested (is_inside_wide (is_second_half p) s) i s (pos h.0) h.1 (and_from _ _ (lt-ltb s h.0 h.2) (ap is_half h.3))
test_from_breaks p i s RunsOffTheEnd h = and_from _ _ h.0 (eq-eqb (s + slot_count i) (size p) h.1)
test_from_breaks p i s Unreachable h = ap not (false_from_ne_true (is_reached p s) (λ e. h (reached_from_test p s e)))

-- ---- the first rule

-- the rule of a number
rule_of : ℕ → StructureRule
rule_of n = cond (eqb n 1) TargetOutside (cond (eqb n 2) TargetNotForward (cond (eqb n 3) TargetInsideWide (cond (eqb n 4) RunsOffTheEnd Unreachable)))

of_number : (rule : StructureRule) → rule_of (rule_number rule) ≡ rule
unfolding rule_of
of_number TargetOutside = refl
of_number TargetNotForward = refl
of_number TargetInsideWide = refl
of_number RunsOffTheEnd = refl
of_number Unreachable = refl

pub same_rule : (a b : StructureRule) → rule_number a ≡ rule_number b → a ≡ b
same_rule a b e = sym (of_number a) ∙ ap rule_of e ∙ of_number b

-- the test fails at the rules of a number below n
abbrev AllFail : (StructureRule → Bool) → ℕ → Type 0
AllFail test n = (other : StructureRule) → rule_number other < n → test other ≡ false

one_more_fails : (test : StructureRule → Bool) (rule : StructureRule) → AllFail test (rule_number rule) → test rule ≡ false → AllFail test (suc (rule_number rule))
one_more_fails test rule fail h = λ other lt.
    ⊎_elim
    (λ below. fail other below)
    (λ above. ap test (same_rule other rule (omega arith)) ∙ h)
    (cases_lt (rule_number other) (rule_number rule))

pub record IsFirst (test : StructureRule → Bool) (rule : StructureRule) : Type 0 where
  pub holds : test rule ≡ true
  pub lower : AllFail test (rule_number rule)

-- what the search from a rule on gives
abbrev Found : (StructureRule → Bool) → Option StructureRule → Type 0
Found test None = AllFail test 6
Found test (Some rule) = IsFirst test rule

found_step : (test : StructureRule → Bool) (rule : StructureRule) (later : Option StructureRule) → AllFail test (rule_number rule) → (AllFail test (suc (rule_number rule)) → Found test later) → Found test (cond (test rule) (Some rule) later)
found_step test rule later fail on =
    cond_both (test rule) (Some rule) later (Found test) (λ h. record { holds = h; lower = fail }) (λ h. on (one_more_fails test rule fail h))

found : (test : StructureRule → Bool) → Found test (find test rules_in_order)
found test =
    found_step test TargetOutside _ (λ other lt. absurd (none_below_1 other lt)) (λ a.
    found_step test TargetNotForward _ a (λ b.
    found_step test TargetInsideWide _ b (λ c.
    found_step test RunsOffTheEnd _ c (λ d.
    found_step test Unreachable _ d (λ e. e)))))
  where
    none_below_1 : (other : StructureRule) → rule_number other < 1 → ⊥
    none_below_1 TargetOutside h = omega arith
    none_below_1 TargetNotForward h = omega arith
    none_below_1 TargetInsideWide h = omega arith
    none_below_1 RunsOffTheEnd h = omega arith
    none_below_1 Unreachable h = omega arith

number_below : (rule : StructureRule) → rule_number rule < 6
number_below TargetOutside = omega arith
number_below TargetNotForward = omega arith
number_below TargetInsideWide = omega arith
number_below RunsOffTheEnd = omega arith
number_below Unreachable = omega arith

pub none_found : (test : StructureRule → Bool) → find test rules_in_order ≡ None → (rule : StructureRule) → test rule ≡ false
none_found test h rule =
    let all : AllFail test 6 = subst (Found test) h (found test) in
    all rule (number_below rule)

pub first_found : (test : StructureRule → Bool) (rule : StructureRule) → find test rules_in_order ≡ Some rule → IsFirst test rule
first_found test rule h = subst (Found test) h (found test)

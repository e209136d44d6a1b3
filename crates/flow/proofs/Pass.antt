-- The pass over a program, instruction by instruction: which slots are reached, and the fault so far.
use Rattle.std.proofs.Common.{◌≡◌, ℕ, zero, suc, ◌+◌, ◌-◌, ◌<◌, ◌≤◌, Bool, true, false, List, Option, Some, None, refl, sym, ap, ◌∙◌, inr, ⊎_elim, arith}
use Rattle.std.specs.Prelude.{◌||◌, nat_eq, pos, option_and_then, option_map}
use Rattle.std.specs.List.{list_any}
use Rattle.std.proofs.lemmas.Bool.{cases_Bool, cases_lt, false≢true}
use Rattle.std.proofs.lemmas.Int.{ints}
use Rattle.insn.specs.declared.instruction.Form.{Form}
use Rattle.insn.specs.Layout.{slot_count, size, instruction_at, LeadsTo}
use Rattle.insn.specs.declared.instruction.Edge.{Edge}
use Rattle.insn.specs.declared.instruction.Edge.TheVariants.{Fall, Jump}
use Rattle.flow.specs.declared.rules.StructureRule.{StructureRule}
use Rattle.flow.specs.declared.rules.StructureRule.TheVariants.{TargetOutside, RunsOffTheEnd, Unreachable}
use Rattle.flow.specs.Structure.{StandsAt}
use Rattle.flow.specs.declared.rules.Broken.{Broken}
use Rattle.flow.specs.Faults.{fault, leads_to, is_reached_from, reached_slots, is_reached, is_second_half, first_rule, rule_at, or_fault_at, lowest_fault}
use Rattle.flow.specs.declared.slot_set.SlotSet.{SlotSet}
use Rattle.flow.specs.SlotSets.{has_slot}
use Rattle.flow.proofs.Jumps.{edge_found}
use Rattle.flow.proofs.Reach.{kept_slots, same_slots, test_from_reached}
use Rattle.flow.proofs.Lowest.{none_at}
use Rattle.flow.proofs.Positions.{one_or_two, Placed}

-- ---- what is reached

exchanged : (a b c : Bool) → (a || (b || c)) ≡ (b || (a || c))
exchanged true true c = refl
exchanged true false c = refl
exchanged false b c = refl

one_slot : (p : List Form) (i : Form) (s : ℕ) → StandsAt p i s → is_reached p s ≡ true → (t : ℕ) → is_reached_from p (reached_slots p (suc s)) t ≡ (leads_to (Some i) s t || is_reached_from p (reached_slots p s) t)
one_slot p i s stands reached t =
    ap (λ b. nat_eq t 0 || b) (kept_slots p s (λ u. leads_to (instruction_at p u) u t) reached)
    ∙ ap (λ o. nat_eq t 0 || (leads_to o s t || list_any (λ u. leads_to (instruction_at p u) u t) (reached_slots p s))) stands
    ∙ exchanged (nat_eq t 0) (leads_to (Some i) s t) (list_any (λ u. leads_to (instruction_at p u) u t) (reached_slots p s))

no_instruction : (p : List Form) (s : ℕ) → instruction_at p s ≡ None → (t : ℕ) → is_reached_from p (reached_slots p (suc s)) t ≡ is_reached_from p (reached_slots p s) t
no_instruction p s none t =
    ⊎_elim
    (λ h.
    ap (λ b. nat_eq t 0 || b) (kept_slots p s (λ u. leads_to (instruction_at p u) u t) h)
    ∙ ap (λ o. nat_eq t 0 || (leads_to o s t || list_any (λ u. leads_to (instruction_at p u) u t) (reached_slots p s))) none)
    (λ h. ap (λ b. nat_eq t 0 || b) (same_slots p s (λ u. leads_to (instruction_at p u) u t) h))
    (cases_Bool (is_reached p s))

-- ---- the fault so far

no_rule : (p : List Form) (s : ℕ) → rule_at p s ≡ None → lowest_fault p s ≡ None → lowest_fault p (suc s) ≡ None
unfolding lowest_fault
no_rule p s rule before = ap (or_fault_at s (rule_at p s)) before ∙ ap (option_map (fault s)) rule

a_rule : (p : List Form) (s : ℕ) (rule : StructureRule) → rule_at p s ≡ Some rule → lowest_fault p s ≡ None → lowest_fault p (suc s) ≡ Some (fault s rule)
unfolding lowest_fault
a_rule p s rule broken before = ap (or_fault_at s (rule_at p s)) before ∙ ap (option_map (fault s)) broken

stays : (p : List Form) (f : Broken) (s n : ℕ) → lowest_fault p s ≡ Some f → lowest_fault p (s + n) ≡ Some f
unfolding lowest_fault
stays p f s zero h = let e : s + 0 ≡ s = omega arith in ap (lowest_fault p) e ∙ h
stays p f s (suc n) h = let e : s + suc n ≡ suc (s + n) = omega arith in ap (lowest_fault p) e ∙ ap (or_fault_at (s + n) (rule_at p (s + n))) (stays p f s n h)

-- ---- one instruction

abbrev pub first_here : List Form → Form → ℕ → Option StructureRule
first_here p i s = first_rule (size p) (is_second_half p) (is_reached p s) i s

here : (p : List Form) (i : Form) (s : ℕ) → StandsAt p i s → rule_at p s ≡ first_here p i s
here p i s stands = ap (option_and_then (λ j. first_here p j s)) stands

pub lowest_next : {p : List Form} {i : Form} {s : ℕ} → Placed p i s → first_here p i s ≡ None → lowest_fault p s ≡ None → lowest_fault p (s + slot_count i) ≡ None
lowest_next {p} {i} {s} at none before =
    let after = no_rule p s (here p i s at.stands ∙ none) before in
    ⊎_elim
    (λ one. let n : s + slot_count i ≡ suc s = omega (arith, one) in ap (lowest_fault p) n ∙ after)
    (λ two.
    let n : s + slot_count i ≡ suc (suc s) = omega (arith, two.0) in
    ap (lowest_fault p) n ∙ no_rule p (suc s) (ap (option_and_then (λ j. first_here p j (suc s))) (at.wide two.1)) after)
    (one_or_two i)

pub reached_next : {p : List Form} {i : Form} {s : ℕ} → Placed p i s → is_reached p s ≡ true → (t : ℕ) → is_reached_from p (reached_slots p (s + slot_count i)) t ≡ (leads_to (Some i) s t || is_reached_from p (reached_slots p s) t)
reached_next {p} {i} {s} at reached t =
    let after = one_slot p i s at.stands reached t in
    ⊎_elim
    (λ one. let n : s + slot_count i ≡ suc s = omega (arith, one) in ap (λ m. is_reached_from p (reached_slots p m) t) n ∙ after)
    (λ two.
    let n : s + slot_count i ≡ suc (suc s) = omega (arith, two.0) in
    ap (λ m. is_reached_from p (reached_slots p m) t) n ∙ no_instruction p (suc s) (at.wide two.1) t ∙ after)
    (one_or_two i)

pub fault_here : {p : List Form} {i : Form} {s : ℕ} (n : ℕ) (rule : StructureRule) → Placed p i s → first_here p i s ≡ Some rule → lowest_fault p s ≡ None → s < n → lowest_fault p n ≡ Some (fault s rule)
fault_here {p} {i} {s} n rule at broken before lt =
    let m : n ≡ suc s + (n - suc s) = omega (arith, lt) in
    ap (lowest_fault p) m ∙ stays p (fault s rule) (suc s) (n - suc s) (a_rule p s rule (here p i s at.stands ∙ broken) before)

-- where an unbroken instruction leads to lies in the program
within_by : (p : List Form) (i : Form) (s t : ℕ) (e : Edge) → StandsAt p i s → rule_at p s ≡ None → s + slot_count i ≤ size p → LeadsTo i s e (pos t) → t < size p
within_by p i s t Fall stands none le leads =
    let n : t ≡ s + slot_count i = cc (leads.1) in
    ⊎_elim (λ lt. lt) (λ ge. absurd (none_at p i s stands none RunsOffTheEnd (leads.0, omega (arith, n, ge, le)))) (cases_lt t (size p))
within_by p i s t Jump stands none le leads =
    ⊎_elim (λ lt. lt) (λ ge. absurd (none_at p i s stands none TargetOutside (pos t, leads, inr (omega (arith, ints, ge))))) (cases_lt t (size p))

pub targets_within : {p : List Form} {i : Form} {s : ℕ} → Placed p i s → first_here p i s ≡ None → (t : ℕ) → leads_to (Some i) s t ≡ true → t < size p
targets_within {p} {i} {s} at none t leads =
    let edge = edge_found (Some i) s t leads in
    let same : i ≡ edge.0 = cc (edge.2) in
    within_by p edge.0 s t edge.1 (at.stands ∙ edge.2) (here p i s at.stands ∙ none) (omega (arith, at.within, ap slot_count same)) edge.3

-- an instruction that breaks no rule is reached
pub reached_here : {p : List Form} {i : Form} {s : ℕ} → Placed p i s → first_here p i s ≡ None → is_reached p s ≡ true
reached_here {p} {i} {s} at none =
    ⊎_elim
    (λ h. h)
    (λ h. absurd (none_at p i s at.stands (here p i s at.stands ∙ none) Unreachable (λ reached. false≢true (sym h ∙ test_from_reached p s reached))))
    (cases_Bool (is_reached p s))

-- ---- the code's sets

-- the rule that the code finds, by its sets, is the program's
pub as_found : (p : List Form) (i : Form) (s n : ℕ) (halves : SlotSet) (reached : Bool) → n ≡ size p → ((t : ℕ) → has_slot halves t ≡ is_second_half p t) → reached ≡ is_reached p s → first_rule n (has_slot halves) reached i s ≡ first_here p i s
as_found p i s n halves reached sized same at =
    ap (λ m. first_rule m (has_slot halves) reached i s) sized
    ∙ ap (λ f. first_rule (size p) f reached i s) (λ j t. same t j)
    ∙ ap (λ b. first_rule (size p) (is_second_half p) b i s) at

-- The broken rule that is named for a program, computed: the first slot in order at which a rule is broken, and the first of the
-- rules there. The laws `no_fault_where_structured` and `fault_is_first_broken` say that it is the one that `Structure` defines.
use Rattle.std.specs.Prelude.{ℕ, zero, suc, ◌+◌, Bool, true, false, cond, not, ◌&&◌, ◌||◌, nat_lt, nat_le, nat_eq, ℤ, pos, negsuc, ◌+ℤ◌, List, [], ◌∷◌, ◌++◌, Option, Some, None, find, slice_get, option_map, option_and_then}
use Rattle.std.specs.List.{list_any}
use Rattle.insn.specs.declared.instruction.TheConstants.{MAX_SLOTS}
use Rattle.insn.specs.declared.instruction.Form.{Form}
use Rattle.insn.specs.Layout.{layout, size, slot_count, instruction_at, falls_through, displacement}
use Rattle.flow.specs.declared.rules.StructureRule.{StructureRule}
use Rattle.flow.specs.declared.rules.StructureRule.TheVariants.{TargetOutside, TargetNotForward, TargetInsideWide, RunsOffTheEnd, Unreachable}
use Rattle.flow.specs.declared.rules.Broken.{Broken}

-- the fault of a rule at a slot
abbrev pub fault : ℕ → StructureRule → Broken
fault slot rule = record { slot = slot; rule = rule }

-- ---- jumps

-- RFC 9669, section 4.3: where i at slot s jumps to, if it may jump: its offset counts from the slot after its first
abbrev pub jump_target : Form → ℕ → Option ℤ
jump_target i s = option_map (λ d. pos (s + 1) +ℤ d) (displacement i)

-- there is a target, and the test holds of it
abbrev pub jump_is : (ℤ → Bool) → Option ℤ → Bool
jump_is test None = false
jump_is test (Some t) = test t

-- the target is below slot 0, or not below n
abbrev pub is_outside : ℕ → ℤ → Bool
is_outside n (negsuc k) = true
is_outside n (pos t) = nat_le n t

-- the target is from 0 to s
abbrev pub is_backward : ℕ → ℤ → Bool
is_backward s (negsuc k) = false
is_backward s (pos t) = nat_le t s

-- the target is above s, and one of the second halves
abbrev pub is_inside_wide : (ℕ → Bool) → ℕ → ℤ → Bool
is_inside_wide halves s (negsuc k) = false
is_inside_wide halves s (pos t) = nat_lt s t && halves t

-- the target is slot s
abbrev pub is_slot : ℕ → ℤ → Bool
is_slot s (negsuc k) = false
is_slot s (pos t) = nat_eq t s

-- ---- slots

-- RFC 9669, section 3.2: what stands in a slot is the second half of a wide instruction
abbrev pub is_half : Option (Option Form) → Bool
is_half None = false
is_half (Some None) = true
is_half (Some (Some i)) = false

-- slot t holds a second half
abbrev pub is_second_half : List Form → ℕ → Bool
is_second_half p t = is_half (slice_get (layout p) t)

-- what stands at slot s leads to slot t
abbrev pub leads_to : Option Form → ℕ → ℕ → Bool
leads_to None s t = false
leads_to (Some i) s t = (falls_through i && nat_eq (s + slot_count i) t) || jump_is (is_slot t) (jump_target i s)

-- slot t is 0, or one of the slots leads to it
abbrev pub is_reached_from : List Form → List ℕ → ℕ → Bool
is_reached_from p slots t = nat_eq t 0 || list_any (λ s. leads_to (instruction_at p s) s t) slots

-- the slots, and t too if they reach it
abbrev pub with_reached : List Form → ℕ → List ℕ → List ℕ
with_reached p t slots = cond (is_reached_from p slots t) (t ∷ slots) slots

-- the reached slots below k: each is reached from those below it
unfoldable pub reached_slots : List Form → ℕ → List ℕ
reached_slots p zero = []
reached_slots p (suc k) = with_reached p k (reached_slots p k)

-- slot s is reached
abbrev pub is_reached : List Form → ℕ → Bool
is_reached p s = is_reached_from p (reached_slots p s) s

-- ---- the rules

-- i at slot s breaks the rule, in a program of n slots with these second halves, where s is reached or not
abbrev pub is_broken : ℕ → (ℕ → Bool) → Bool → Form → ℕ → StructureRule → Bool
is_broken n halves reached i s TargetOutside = jump_is (is_outside n) (jump_target i s)
is_broken n halves reached i s TargetNotForward = jump_is (is_backward s) (jump_target i s)
is_broken n halves reached i s TargetInsideWide = jump_is (is_inside_wide halves s) (jump_target i s)
is_broken n halves reached i s RunsOffTheEnd = falls_through i && nat_eq (s + slot_count i) n
is_broken n halves reached i s Unreachable = not reached

-- the rules that an instruction breaks by its jump alone
abbrev pub rules_of_jumps : List StructureRule
rules_of_jumps = TargetOutside ∷ TargetNotForward ∷ TargetInsideWide ∷ []

-- all rules, by their numbers
abbrev pub rules_in_order : List StructureRule
rules_in_order = rules_of_jumps ++ RunsOffTheEnd ∷ Unreachable ∷ []

-- the first of them that i at slot s breaks
unfoldable pub first_rule : ℕ → (ℕ → Bool) → Bool → Form → ℕ → Option StructureRule
first_rule n halves reached i s = find (is_broken n halves reached i s) rules_in_order

-- the first rule that is broken at slot s
abbrev pub rule_at : List Form → ℕ → Option StructureRule
rule_at p s = option_and_then (λ i. first_rule (size p) (is_second_half p) (is_reached p s) i s) (instruction_at p s)

-- the fault of a lower slot, or else that of this rule at slot s
abbrev pub or_fault_at : ℕ → Option StructureRule → Option Broken → Option Broken
or_fault_at s rule (Some f) = Some f
or_fault_at s rule None = option_map (fault s) rule

-- the fault at the lowest of the slots below k
unfoldable pub lowest_fault : List Form → ℕ → Option Broken
lowest_fault p zero = None
lowest_fault p (suc k) = or_fault_at k (rule_at p k) (lowest_fault p k)

-- there is an instruction, and at most 4,096 slots
abbrev pub has_good_size : List Form → Bool
has_good_size p = nat_lt 0 (size p) && nat_le (size p) MAX_SLOTS

-- the fault that is to be named
unfoldable pub structure_fault : List Form → Option Broken
structure_fault p = cond (has_good_size p) (lowest_fault p (size p)) (Some (fault 0 RunsOffTheEnd))

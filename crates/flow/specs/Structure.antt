-- When the control flow of a program is well structured: each jump leads forward to an instruction (RFC 9669, section 4.3),
-- the last instruction doesn't fall through, and every instruction can be reached.
use Rattle.std.specs.Prelude.{◌≡◌, ℕ, ◌+◌, ◌<◌, ◌≤◌, ◌⊎◌, true, ℤ, pos, ◌<ℤ◌, ◌≤ℤ◌, List, Some, None, slice_get}
use Rattle.insn.specs.declared.instruction.TheConstants.{MAX_SLOTS}
use Rattle.insn.specs.declared.instruction.Form.{Form}
use Rattle.insn.specs.Layout.{layout, size, slot_count, instruction_at, falls_through, LeadsTo}
use Rattle.insn.specs.declared.instruction.Edge.{Edge}
use Rattle.insn.specs.declared.instruction.Edge.TheVariants.{Jump}
use Rattle.flow.specs.declared.rules.StructureRule.{StructureRule}
use Rattle.flow.specs.declared.rules.StructureRule.TheVariants.{TargetOutside, TargetNotForward, TargetInsideWide, RunsOffTheEnd, Unreachable}

-- instruction i stands at slot s
abbrev pub StandsAt : List Form → Form → ℕ → Type 0
StandsAt p i s = instruction_at p s ≡ Some i

-- reached are slot 0, and each higher slot that a reached instruction jumps to or falls through to
pub data Reached (p : List Form) : ℕ → Type 0 where
  first : Reached p 0
  next : {s t : ℕ} {i : Form} (e : Edge) → Reached p s → StandsAt p i s → LeadsTo i s e (pos t) → s < t → Reached p t

-- the number of a rule
abbrev pub rule_number : StructureRule → ℕ
rule_number TargetOutside = 1
rule_number TargetNotForward = 2
rule_number TargetInsideWide = 3
rule_number RunsOffTheEnd = 4
rule_number Unreachable = 5

-- the rule is broken by i at slot s
abbrev pub Breaks : StructureRule → List Form → Form → ℕ → Type 0
-- i jumps below slot 0, or behind the last slot
Breaks TargetOutside p i s = (t : ℤ) × LeadsTo i s Jump t × ((t <ℤ pos 0) ⊎ (pos (size p) ≤ℤ t))
-- i jumps to itself, or backward
Breaks TargetNotForward p i s = (t : ℤ) × LeadsTo i s Jump t × (pos 0 ≤ℤ t) × (t ≤ℤ pos s)
-- i jumps to the second half of a wide instruction
Breaks TargetInsideWide p i s = (t : ℕ) × LeadsTo i s Jump (pos t) × (s < t) × (slice_get (layout p) t ≡ Some None)
-- i is the last instruction, and is followed by the next one
Breaks RunsOffTheEnd p i s = (falls_through i ≡ true) × (s + slot_count i ≡ size p)
-- i is not reached
Breaks Unreachable p i s = Reached p s → ⊥

-- a program has an instruction, and at most 4,096 slots
pub record HasGoodSize (p : List Form) : Type 0 where
  pub some : 0 < size p
  pub few : size p ≤ MAX_SLOTS

-- no instruction breaks a rule at a slot for which P holds
abbrev pub IsUnbroken : List Form → (ℕ → Type 0) → Type 0
IsUnbroken p P = (i : Form) (s : ℕ) → P s → StandsAt p i s → (rule : StructureRule) → Breaks rule p i s → ⊥

-- every slot
abbrev pub AnySlot : ℕ → Type 0
AnySlot s = Unit {0}

-- a program of good size in which none of the rules is broken
pub record IsStructured (p : List Form) : Type 0 where
  pub size_good : HasGoodSize p
  pub each : IsUnbroken p AnySlot

-- i at slot s breaks the rule, and nothing is broken at a lower slot, and no rule of a lower number at s
pub record BreaksFirst (p : List Form) (i : Form) (s : ℕ) (rule : StructureRule) : Type 0 where
  pub size_good : HasGoodSize p
  pub stands : StandsAt p i s
  pub broken : Breaks rule p i s
  pub lowest_slot : IsUnbroken p (λ t. t < s)
  pub lowest_number : (other : StructureRule) → rule_number other < rule_number rule → Breaks other p i s → ⊥

-- a program has no instruction, or more than 4,096 slots
abbrev pub HasBadSize : List Form → Type 0
HasBadSize p = (size p ≡ 0) ⊎ (MAX_SLOTS < size p)

-- the rule that is to be named, and its slot: a program of bad size runs off the end at slot 0, before all else
abbrev pub FirstBroken : List Form → ℕ → StructureRule → Type 0
FirstBroken p s rule = (HasBadSize p × (s ≡ 0) × (rule ≡ RunsOffTheEnd)) ⊎ ((i : Form) × BreaksFirst p i s rule)

-- The programs that are typable, and the refusal of one that isn't.
use Rattle.std.specs.Prelude.{◌≡◌, ℕ, ◌<◌, ◌≤◌, ◌⊎◌, pos, List, Option, Some, None}
use Rattle.insn.specs.declared.instruction.Form.{Form}
use Rattle.insn.specs.Layout.{LeadsTo}
use Rattle.insn.specs.declared.instruction.Edge.{Edge}
use Rattle.regkind.specs.Frames.{Frame, Covers, IsFrame, entry_frame}
use Rattle.flow.specs.Structure.{IsStructured, StandsAt, FirstBroken}
use Rattle.flow.specs.declared.rules.StructureRule.{StructureRule}
use Rattle.flow.specs.declared.rules.StructureRule.TheVariants as structure
use Rattle.verifier.specs.declared.refusal.VerifyFault.{VerifyFault}
use Rattle.verifier.specs.declared.refusal.VerifyFault.TheVariants.{TargetOutside, TargetNotForward, TargetInsideWide, RunsOffTheEnd, Unreachable}
use Rattle.verifier.specs.declared.refusal.Refused.{Refused}
use Rattle.verifier.specs.declared.refusal.VerifyError.{VerifyError}
use Rattle.verifier.specs.declared.refusal.VerifyError.TheVariants as answers
use Rattle.verifier.specs.Signature.{Signature}
use Rattle.verifier.specs.Rules.{first_broken}
use Rattle.verifier.specs.FrameAfter.{frame_after}

-- a frame for each slot
abbrev pub Frames : Type 0
Frames = ℕ → Frame

-- instruction i at slot s leads to slot t, by this edge
abbrev pub Leads : List Form → Form → ℕ → Edge → ℕ → Type 0
Leads p i s e t = StandsAt p i s × LeadsTo i s e (pos t)

-- under these frames no instruction breaks a rule, and each frame says no more than what comes in along any edge
pub record IsTyping (p : List Form) (l : Signature) (F : Frames) : Type 0 where
  pub frames : (s : ℕ) → IsFrame (F s)
  pub entry : Covers (F 0) entry_frame
  pub each : (i : Form) (s : ℕ) → StandsAt p i s → first_broken l i (F s) ≡ None
  pub edges : (i : Form) (s t : ℕ) (e : Edge) → Leads p i s e t → Covers (F t) (frame_after i (F s) e)

-- the structure is good, and there is some typing
abbrev pub IsTypable : List Form → Signature → Type 0
IsTypable p l = IsStructured p × ((F : Frames) × IsTyping p l F)

-- ---- joined frames

-- a frame comes in at slot t: the entry's frame at the first slot, and what goes along an edge from a lower slot, of what is known there
pub data ComesTo (p : List Form) (known : ℕ → Option Frame) (t : ℕ) : Frame → Type 0 where
  entry : t ≡ 0 → ComesTo p known t entry_frame
  along : (i : Form) (s : ℕ) (e : Edge) (f : Frame) → Leads p i s e t → s < t → known s ≡ Some f → ComesTo p known t (frame_after i f e)

-- the frame says just what all of these have in common
pub record IsInCommon (some : Frame → Type 0) (f : Frame) : Type 0 where
  pub frame : IsFrame f
  pub no_more : (g : Frame) → some g → Covers f g
  pub no_less : (a : Frame) → ((g : Frame) → some g → Covers a g) → Covers a f

-- what these have in common, if there is any of them
abbrev pub IsJoinOf : (Frame → Type 0) → Option Frame → Type 0
IsJoinOf some None = (g : Frame) → some g → ⊥
IsJoinOf some (Some f) = IsInCommon some f

-- what is known at slot t is what all that comes in there has in common, and nothing where nothing comes in
abbrev pub IsKnownAt : List Form → (ℕ → Option Frame) → ℕ → Type 0
IsKnownAt p known t = IsJoinOf (ComesTo p known t) (known t)

-- ---- refusals

-- under the joined frames, this is the first rule of kinds that is broken: at the lowest slot, and there the lowest
pub record FirstBrokenKind (p : List Form) (l : Signature) (s : ℕ) (why : VerifyFault) : Type 0 where
  pub frames : Frames
  pub joined : (i : Form) (t : ℕ) → StandsAt p i t → t ≤ s → IsKnownAt p (λ u. Some (frames u)) t
  pub before : (i : Form) (t : ℕ) → StandsAt p i t → t < s → first_broken l i (frames t) ≡ None
  pub instruction : Form
  pub stands : StandsAt p instruction s
  pub broken : first_broken l instruction (frames s) ≡ Some why

-- a rule of structure as the reason of a refusal
abbrev pub structure_reason : StructureRule → VerifyFault
structure_reason structure.TargetOutside = TargetOutside
structure_reason structure.TargetNotForward = TargetNotForward
structure_reason structure.TargetInsideWide = TargetInsideWide
structure_reason structure.RunsOffTheEnd = RunsOffTheEnd
structure_reason structure.Unreachable = Unreachable

-- the refusal is the first rule of structure that is broken: structure is decided for the whole program first, then kinds
abbrev pub RefusedByStructure : List Form → Refused → Type 0
RefusedByStructure p e = (rule : StructureRule) × FirstBroken p e.slot rule × (e.why ≡ structure_reason rule)

-- the structure is good, and this is the first rule of kinds that is broken
abbrev pub RefusedByKinds : List Form → Signature → Refused → Type 0
RefusedByKinds p l e = IsStructured p × FirstBrokenKind p l e.slot e.why

-- the refusal that is to be named
abbrev pub Refuses : List Form → Signature → Refused → Type 0
Refuses p l e = RefusedByStructure p e ⊎ RefusedByKinds p l e

-- ---- what verify answers

-- there is no memory left, which says nothing of the program
abbrev pub IsNoMemory : VerifyError → Type 0
IsNoMemory e = e ≡ answers.NoMemory

-- where the program is refused, this holds of the refusal
abbrev pub IfRefused : (Refused → Type 0) → VerifyError → Type 0
IfRefused P answers.NoMemory = Unit {0}
IfRefused P (answers.Refused e) = P e

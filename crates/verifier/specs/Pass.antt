-- Internal: what one visit of an instruction does to the table of frames that the pass keeps. No public contract cites it.
use Rattle.std.specs.Prelude.{◌≡◌, ℕ, ◌<◌, ◌⊎◌, pos, List, length, Option, Some, None, ◌↔◌, slice_get, slice_set}
use Rattle.insn.specs.declared.instruction.Form.{Form}
use Rattle.insn.specs.Layout.{LeadsTo, size}
use Rattle.insn.specs.declared.instruction.Edge.{Edge}
use Rattle.insn.specs.declared.instruction.Edge.TheVariants.{Fall, Jump}
use Rattle.regkind.specs.Frames.{Frame, Covers, IsFrame, entry_frame}
use Rattle.flow.specs.Structure.{StandsAt}
use Rattle.verifier.specs.declared.refusal.VerifyFault.{VerifyFault}
use Rattle.verifier.specs.Signature.{Signature}
use Rattle.verifier.specs.Rules.{first_broken}
use Rattle.verifier.specs.FrameAfter.{frame_after}
use Rattle.verifier.specs.Typing.{IsTyping}

-- for each slot the frame that has come in so far, if any has
abbrev pub Table : Type 0
Table = List (Option Frame)

-- the frame in a slot; the entry's, where none has come in
abbrev pub or_entry : Option (Option Frame) → Frame
or_entry (Some (Some f)) = f
or_entry (Some None) = entry_frame
or_entry None = entry_frame

-- the frame of each slot
abbrev pub frame_at : Table → ℕ → Frame
frame_at xs t = or_entry (slice_get xs t)

-- the table has a frame for each instruction of the program, and these are a typing
pub record IsTypedBy (p : List Form) (l : Signature) (xs : Table) : Type 0 where
  pub slots : length xs ≡ size p
  pub each : (i : Form) (s : ℕ) → StandsAt p i s → (f : Frame) × (slice_get xs s ≡ Some (Some f))
  pub typing : IsTyping p l (frame_at xs)

-- what is in the slot and the frame that comes in have this in common
abbrev pub Meets : Option (Option Frame) → Frame → Frame → Type 0
Meets (Some (Some g)) f both = (a : Frame) → Covers a both ↔ (Covers a g × Covers a f)
Meets (Some None) f both = both ≡ f
Meets None f both = ⊥

-- the frame comes in at slot t
pub record FlowsInto (old new : Table) (t : ℕ) (f : Frame) : Type 0 where
  pub both : Frame
  pub frame : IsFrame both
  pub meets : Meets (slice_get old t) f both
  pub written : new ≡ slice_set old t (Some both)

-- the edge of i at slot s leads forward, to slot t of n
abbrev pub IsForward : Form → ℕ → Edge → ℕ → ℕ → Type 0
IsForward i s e t n = LeadsTo i s e (pos t) × (s < t) × (t < n)

-- the frame goes along this edge of i at slot s, if it leads forward
abbrev pub Follows : Form → ℕ → Edge → Frame → Table → Table → Type 0
Follows i s e f old new =
    ((t : ℕ) × IsForward i s e t (length old) × FlowsInto old new t f) ⊎ (((t : ℕ) → IsForward i s e t (length old) → ⊥) × (new ≡ old))

-- no rule is broken, and the frame after goes along each edge
pub record VisitsFine (l : Signature) (i : Form) (s : ℕ) (old new : Table) : Type 0 where
  pub frame : Frame
  pub here : slice_get old s ≡ Some (Some frame)
  pub fine : first_broken l i frame ≡ None
  pub between : Table
  pub jumps : Follows i s Jump (frame_after i frame Jump) old between
  pub falls : Follows i s Fall (frame_after i frame Fall) between new

-- what a visit does, and what it answers: the rule that is broken, if one is. Where nothing leads to it, it does nothing
abbrev pub Visits : Signature → Form → ℕ → Table → Table → Option VerifyFault → Type 0
Visits l i s old new None = VisitsFine l i s old new ⊎ ((slice_get old s ≡ Some None) × (new ≡ old))
Visits l i s old new (Some why) = (f : Frame) × (slice_get old s ≡ Some (Some f)) × (first_broken l i f ≡ Some why) × (new ≡ old)

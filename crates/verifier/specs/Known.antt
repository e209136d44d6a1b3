-- What is known before each instruction, also of a program that is refused.
use Rattle.std.specs.Prelude.{◌≡◌, ℕ, ◌<◌, ◌≤◌, ◌↔◌, List, Option, Some, None, IsSome, slice_get, unwrap_or}
use Rattle.std.specs.List.{AllByRecursion}
use Rattle.insn.specs.declared.instruction.Form.{Form}
use Rattle.insn.specs.Encoding.{HasEncoding}
use Rattle.insn.specs.Layout.{size}
use Rattle.regkind.specs.Frames.{Frame, Covers, blank_frame}
use Rattle.flow.specs.Structure.{StandsAt, Reached}
use Rattle.verifier.specs.declared.refusal.Refused.{Refused}
use Rattle.verifier.specs.Signature.{Signature}
use Rattle.verifier.specs.Typing.{Frames, IsTyping, IsKnownAt}
use Rattle.verifier.specs.Joined.{joined_frame}
use Rattle.verifier.specs.Verdict.{verdict}

-- slot t isn't behind the refused one, if there is one
abbrev pub IsUpTo : Option Refused → ℕ → Type 0
IsUpTo None t = Unit {0}
IsUpTo (Some e) t = t ≤ e.slot

-- for each slot, up to the refused one, these have its joined frame, or none where nothing leads to it
abbrev pub AreKnown : List Form → Option Refused → List (Option Frame) → Type 0
AreKnown p e frames = (t : ℕ) → t < size p → IsUpTo e t → slice_get frames t ≡ Some (joined_frame p t)

-- ---- what the joined frames are

-- the joined frames are known so, of any program
abbrev pub JoinedAreKnown : Type 0
JoinedAreKnown = (p : List Form) (t : ℕ) → IsKnownAt p (joined_frame p) t

-- and no others are
abbrev pub KnownAreJoined : Type 0
KnownAreJoined = (p : List Form) (known : ℕ → Option Frame) (n : ℕ) → ((t : ℕ) → t < n → IsKnownAt p known t) → (t : ℕ) → t < n → known t ≡ joined_frame p t

-- something is known just where a slot is reached
abbrev pub ReachedAreKnown : Type 0
ReachedAreKnown = (p : List Form) (t : ℕ) → IsSome (joined_frame p t) ↔ Reached p t

-- ---- of an accepted program

-- the joined frame of a slot; where there is none, one that says nothing
abbrev pub known_before : List Form → ℕ → Frame
known_before p t = unwrap_or (joined_frame p t) blank_frame

-- the joined frames are a typing, and no other says more before any instruction
pub record IsBestTyping (p : List Form) (l : Signature) : Type 0 where
  pub each : (i : Form) (t : ℕ) → StandsAt p i t → IsSome (joined_frame p t)
  pub typing : IsTyping p l (known_before p)
  pub best : (F : Frames) → IsTyping p l F → (i : Form) (t : ℕ) → StandsAt p i t → Covers (F t) (known_before p t)

-- so it is of each accepted program
abbrev pub JoinedAreBest : Type 0
JoinedAreBest = (p : List Form) (l : Signature) → AllByRecursion HasEncoding p → verdict p l ≡ None → IsBestTyping p l

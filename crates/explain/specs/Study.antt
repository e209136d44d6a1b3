-- What a study knows. Clauses of private functions alone cite this.
use Rattle.std.specs.Prelude.{◌≡◌, ℕ, ◌<◌, ◌≤◌, List, None}
use Rattle.insn.specs.declared.instruction.Form.{Form}
use Rattle.insn.specs.declared.instruction.TheConstants.{MAX_SLOTS}
use Rattle.insn.specs.Layout.{size}
use Rattle.flow.specs.Structure.{HasGoodSize}
use Rattle.verifier.specs.Known.{AreKnown, IsUpTo}
use Rattle.verifier.specs.Joined.{frame_in}
use Rattle.explain.specs.declared.programs.Study.{Study}
use Rattle.explain.specs.Listing.{kinds_refusal, signature_of, AddsListing, Lists}
use Rattle.explain.specs.Slots.{falls_into, told_upto}
use Rattle.explain.specs.Told.{Adds}

-- the study's frames are the joined ones, up to the refusal by kinds, and that is the program's; none where the program is too long
pub record IsStudy (s : Study) : Type 0 where
  pub frames : HasGoodSize s.subject.program.now → AreKnown s.subject.program.now s.known.kinds s.known.frames.items
  pub kinds : size s.subject.program.now ≤ MAX_SLOTS
      → s.known.kinds ≡ kinds_refusal s.subject.program.now (signature_of s.subject)
  pub no_kinds : MAX_SLOTS < size s.subject.program.now → s.known.kinds ≡ None

-- the slot is one of a program that can be judged
pub record HasSlot (s : Study) (slot : ℕ) : Type 0 where
  pub few : size s.subject.program.now ≤ MAX_SLOTS
  pub within : slot < size s.subject.program.now

-- and it isn't after that of a refusal by kinds
pub record Knows (s : Study) (slot : ℕ) : Type 0 where
  pub has : HasSlot s slot
  pub upto : IsUpTo s.known.kinds slot

-- the slot of the instruction above that falls through to this one, if its frame is known
abbrev pub known_falls : Study → ℕ → List ℕ
known_falls s slot = falls_into s.subject.program.now (frame_in s.known.frames.items) slot

-- the lines of these instructions, the first ones of its program, are added
abbrev pub AddsLines : Study → List Form → List ℕ → List ℕ → Type 0
AddsLines s instructions old new = Adds (Lists (told_upto s.subject.program.now s.known.kinds) 0 instructions) old new

-- the listing of its program is added
abbrev pub AddsListed : Study → List ℕ → List ℕ → Type 0
AddsListed s old new = AddsListing s.subject.program.now s.known.kinds s.known.refused old new

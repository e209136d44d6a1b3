-- What the operations of a store do, by relations: a call runs its program to the exit, an install adds a program.
use Rattle.std.specs.Prelude.{◌≡◌, ℕ, ◌+◌, ◌<◌, ◌≤◌, List, [], ◌∷◌, ◌++◌, length, take, Some}
use Rattle.insn.specs.Refusal.{Decodes}
use Rattle.maps.specs.Maps.{Maps}
use Rattle.verifier.specs.declared.refusal.Mode.{Mode}
use Rattle.verifier.specs.declared.refusal.Mode.TheVariants.{Update, Read}
use Rattle.verifier.specs.Signature.{signature}
use Rattle.verifier.specs.Accepted.{Checked, checked}
use Rattle.machine.specs.Runs.{Runs}
use Rattle.machine.specs.Soundness.{AlwaysRuns}
use Rattle.loader.specs.CatalogueView.{CatalogueView, opening_state}
use Rattle.loader.specs.StoreState.{StoreState}
use Rattle.oplog.specs.Calls.{Call, NewProgram}
use Rattle.oplog.specs.Operations.{Operation}
use Rattle.oplog.specs.declared.records.Op.TheVariants.{Run, Install}
use Rattle.oplog.specs.declared.records.Record.{Record}
use Rattle.oplog.specs.History.{History}
use Rattle.replica.specs.StoreMeaning.{no_place, no_program, program_in}

-- the program has this mode, and its argument this length
abbrev pub Fits : Mode → List ℕ → Checked → Type 0
Fits mode argument program = (program.mode ≡ mode) × (length argument ≡ program.arg_len)

-- what a call does in a state: what it replies, and the maps that it leaves
pub data CallDoes (mode : Mode) (c : CatalogueView) (state : StoreState) (call : Call) : ℕ → Maps → Type 0 where
  -- A program of that number fits. It runs from its first instruction to an EXIT, where R0 has the reply (RFC 9669,
  -- section 4.3).
  Exits : (program : Checked) (steps reply : ℕ) (left : Maps) → program_in c state call.program ≡ Some program
      → Fits mode call.argument program → Runs program.program state.maps call.argument steps reply left
      → CallDoes mode c state call reply left
  -- No program of that number fits: the reply is -22, and the maps stay.
  NoProgram : ((p : Checked) → program_in c state call.program ≡ Some p → Fits mode call.argument p → ⊥)
      → CallDoes mode c state call no_program state.maps

-- the state with these maps, and with one more program after the others
abbrev pub with_maps : StoreState → Maps → StoreState
with_maps state maps = record state { maps = maps }

abbrev pub with_program : StoreState → Checked → StoreState
with_program state program = record state { programs = state.programs ++ program ∷ [] }

-- The bytes encode this program (RFC 9669, section 3), for the maps of the catalogue, with the mode and the length of the
-- argument that were asked. And the program always reaches its exit: the store installs no other.
abbrev pub Encodes : CatalogueView → NewProgram → Checked → Type 0
Encodes c new p =
    (p ≡ checked p.program c.shapes new.arg_len new.mode) × Decodes new.bytes p.program
    × AlwaysRuns p.program (signature c.shapes new.arg_len new.mode)

-- what an update does in a state: what it replies, and the state that it leaves
pub data UpdateDoes (c : CatalogueView) (state : StoreState) : Operation → ℕ → StoreState → Type 0 where
  -- a call leaves its maps
  Called : (call : Call) (reply : ℕ) (left : Maps) → CallDoes Update c state call reply left
      → UpdateDoes c state (Run call) reply (with_maps state left)
  -- an install, while there is a place, adds the program; the reply is its number
  Installed : (new : NewProgram) (program : Checked) → Encodes c new program → length state.programs < state.places
      → UpdateDoes c state (Install new) (length c.programs + length state.programs) (with_program state program)
  -- an install, when there is no place: the reply is -7, and the state stays
  NoPlace : (new : NewProgram) → state.places ≤ length state.programs → UpdateDoes c state (Install new) no_place state

-- the state after these operations, one after another, from the state that the store opens on
pub data After (c : CatalogueView) : History → StoreState → Type 0 where
  Opened : After c [] (opening_state c)
  Then : (history : History) (state next : StoreState) (r : Record) (reply : ℕ) → After c history state
      → UpdateDoes c state r.op reply next → After c (history ++ r ∷ []) next

-- what an update replies after the first i operations
abbrev pub RepliesAt : CatalogueView → History → (i : ℕ) → Operation → (reply : ℕ) → Type 0
RepliesAt c history i op reply =
    (state next : StoreState) × After c (take i history) state × UpdateDoes c state op reply next

-- what a read replies there: it is a call, and changes no state
pub data ReadRepliesAt (c : CatalogueView) (history : History) (i : ℕ) : Operation → ℕ → Type 0 where
  Looked : (call : Call) (reply : ℕ) (state : StoreState) (left : Maps) → After c (take i history) state
      → CallDoes Read c state call reply left → ReadRepliesAt c history i (Run call) reply

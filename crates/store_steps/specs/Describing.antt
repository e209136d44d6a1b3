-- What a store says of a map or of a program of its own, and when it refuses to.
use Rattle.std.specs.Prelude.{◌≡◌, ◌↔◌, ℕ, ◌+◌, ◌≤◌, length, Option, Some, None, slice_get, nat_lt, if◌then◌else◌, IsTrue}
use Rattle.std.specs.Borrow.{Bor}
use Rattle.std.specs.FinMap as finite_map
use Rattle.std.specs.Option.{option_map}
use Rattle.maps.specs.Maps.{Maps, MapState}
use Rattle.verifier.specs.Accepted.{AcceptedView, Checked, checked_in, slots_of}
use Rattle.machine.specs.Isolation.{NamesMap}
use Rattle.named_maps.specs.Naming.{IsIn}
use Rattle.loader.specs.CatalogueView.{CatalogueView}
use Rattle.loader.specs.StoreState.{StoreState}
use Rattle.replica.specs.StoreMeaning.{program_in}
use Rattle.store_steps.specs.declared.describing.InfoRefused.{InfoRefused}
use Rattle.store_steps.specs.declared.describing.InfoRefused.TheVariants.{UnknownMap, UnknownProgram}
use Rattle.store_steps.specs.declared.describing.MapInfo.{MapInfo}
use Rattle.store_steps.specs.declared.describing.ProgramFacts.{ProgramFacts}
use Rattle.store_steps.specs.declared.describing.ProgramInfo.{ProgramInfo}

-- ---- which are refused

-- the number that a refusal shows after its letter S
abbrev pub info_fault_number : InfoRefused → ℕ
info_fault_number UnknownMap = 9
info_fault_number UnknownProgram = 1

-- the store has no map of this number
abbrev pub map_refusal : CatalogueView → ℕ → Option InfoRefused
map_refusal c map = if nat_lt map (length c.shapes) then None else Some UnknownMap

-- the number is none of a program of the catalogue, nor of a place
abbrev pub program_refusal : CatalogueView → ℕ → Option InfoRefused
program_refusal c k = if nat_lt k (length c.programs + c.places) then None else Some UnknownProgram

-- ---- what is told

-- how many keys a map has
abbrev pub key_count : MapState → ℕ
key_count m = finite_map.len m.entries

-- a map's shape in the catalogue, and how many keys the map has in the state
pub record DescribesMap (c : CatalogueView) (state : StoreState) (map : ℕ) (info : MapInfo) : Type 0 where
  pub shape : slice_get c.shapes map ≡ Some info.shape
  pub keys : option_map key_count (slice_get state.maps map) ≡ Some info.keys

-- what an accepted program was accepted for, how long it is, and just which maps it names
pub record Describes (p : Checked) (facts : ProgramFacts) : Type 0 where
  pub mode : facts.mode ≡ p.mode
  pub argument : facts.arg_len ≡ p.arg_len
  pub slots : facts.slots ≡ slots_of p.program
  pub maps : (m : ℕ) → IsIn facts.maps m ↔ NamesMap p.program m

-- a program, if there is one
abbrev pub AreFacts : Option Checked → Option ProgramFacts → Type 0
AreFacts None told = told ≡ None
AreFacts (Some p) told = (facts : ProgramFacts) × (told ≡ Some facts) × Describes p facts

-- of a program that is lent, if one is
abbrev pub AreFactsThere : Option (Bor AcceptedView) → Option ProgramFacts → Type 0
AreFactsThere program told = AreFacts (option_map (λ a. checked_in a.now) program) told

-- program k: whether its number is that of a place, and the facts of the program that has this number in the state
pub record DescribesProgram (c : CatalogueView) (state : StoreState) (k : ℕ) (info : ProgramInfo) : Type 0 where
  pub place : IsTrue info.at_place ↔ (length c.programs ≤ k)
  pub facts : AreFacts (program_in c state k) info.facts

-- ---- by what maps have

-- maps have one of this number, of such a shape and with so many keys
pub record HasMap (maps : Maps) (map : ℕ) (info : MapInfo) : Type 0 where
  pub shape : option_map (λ (m : MapState). m.shape) (slice_get maps map) ≡ Some info.shape
  pub keys : option_map key_count (slice_get maps map) ≡ Some info.keys

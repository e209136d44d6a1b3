-- What holds of each history that a store may have.
use Rattle.std.specs.Prelude.{◌≡◌, ◌↔◌, ◌⊎◌, ℕ, ◌<◌, true, false, length, Some, Ok}
use Rattle.maps.specs.Maps.{HasShapes}
use Rattle.verifier.specs.declared.refusal.Mode.{Mode}
use Rattle.verifier.specs.declared.refusal.Mode.TheVariants.{Update, Read}
use Rattle.verifier.specs.Accepted.{Checked}
use Rattle.machine.specs.Effects.{IsRun, effect_of, Effect as RunEffect}
use Rattle.loader.specs.CatalogueView.{CatalogueView, IsCatalogue, sizes_for}
use Rattle.loader.specs.Installed.{installed_program}
use Rattle.loader.specs.StoreState.{StoreState, IsState}
use Rattle.oplog.specs.Calls.{Call, NewProgram}
use Rattle.oplog.specs.Operations.{Operation}
use Rattle.oplog.specs.declared.records.Op.TheVariants.{Run, Install}
use Rattle.oplog.specs.History.{History, state_after, effect_at, read_at}
use Rattle.replica.specs.StoreMeaning.{program_in, suits, no_program, is_operation, IsOperation, as_update, as_read, placed, AreUpdates, store_meaning}

-- the program that a call names in this state suits it, has a run on the state's maps, and leaves maps of the catalogue's shapes
pub record HasRun (mode : Mode) (c : CatalogueView) (call : Call) (s : StoreState) : Type 0 where
  pub program : Checked
  pub named : program_in c s call.program ≡ Some program
  pub suitable : suits mode call.argument program ≡ true
  pub done : RunEffect
  pub run : IsRun program.program s.maps call.argument done
  pub shapes : HasShapes c.shapes done.maps

-- no program suits the call in this state
abbrev pub HasNone : Mode → CatalogueView → Call → StoreState → Type 0
HasNone mode c call s = (p : Checked) → program_in c s call.program ≡ Some p → suits mode call.argument p ≡ false

-- what a call does in a state: the run of its program, or nothing, with the reply that there is none
abbrev pub IsEffectOf : Mode → CatalogueView → Call → StoreState → RunEffect → Type 0
IsEffectOf mode c call s e = ((h : HasRun mode c call s) × (e ≡ h.done)) ⊎ (HasNone mode c call s × (e ≡ effect_of 0 no_program s.maps))

-- after every number of operations the state has the catalogue's sizes; each call of an update or a read takes effect there, and one of the
-- catalogue's programs is the run of its program; a read leaves the maps; an install finds its program, and a place or none
pub record HasEffects (c : CatalogueView) (history : History) : Type 0 where
  pub states : (k : ℕ) → IsState (sizes_for c) (state_after store_meaning c history k)
  pub offered : (mode : Mode) (k : ℕ) (call : Call) → is_operation mode c (Run call) ≡ true → call.program < length c.programs
      → HasRun mode c call (state_after store_meaning c history k)
  pub updates : (k : ℕ) (call : Call) → is_operation Update c (Run call) ≡ true
      → (e : RunEffect) × IsEffectOf Update c call (state_after store_meaning c history k) e
      × (effect_at store_meaning c history k (Run call) ≡ Some (as_update (state_after store_meaning c history k) e))
  pub reads : (k : ℕ) (call : Call) → is_operation Read c (Run call) ≡ true
      → (e : RunEffect) × IsEffectOf Read c call (state_after store_meaning c history k) e × (read_at store_meaning c history k (Run call) ≡ Some (as_read e))
      × (e.maps ≡ (state_after store_meaning c history k).maps)
  pub installs : (k : ℕ) (new : NewProgram) → is_operation Update c (Install new) ≡ true
      → (p : Checked) × (installed_program c.shapes new.mode new.arg_len new.bytes ≡ Ok p)
      × (effect_at store_meaning c history k (Install new) ≡ Some (placed c (state_after store_meaning c history k) p))

abbrev pub HistoriesHaveEffects : Type 0
HistoriesHaveEffects = (c : CatalogueView) (history : History) → IsCatalogue c → AreUpdates c history → HasEffects c history

-- the test for operations tells just those that are
abbrev pub OperationsAreTested : Type 0
OperationsAreTested = (mode : Mode) (c : CatalogueView) (op : Operation) → (is_operation mode c op ≡ true) ↔ IsOperation mode c op

-- The state that operations run on.
use Rattle.std.specs.Prelude.{◌≡◌, Some}
use Rattle.maps.specs.Maps.{Maps}
use Rattle.maps.specs.MapSets.{maps_of}
use Rattle.loader.specs.StoreState.{StoreState, state_of}
use Rattle.loader.specs.Installed.{InstalledView}
use Rattle.machine.specs.declared.running.Outcome.{Outcome}
use Rattle.loader.specs.CatalogueView.{CatalogueView}
use Rattle.oplog.specs.Operations.{Operation}
use Rattle.replica.specs.StoreMeaning.{answered, updated}
use Rattle.replica.specs.declared.operations.Ground.{Ground}

-- the maps and the programs of a ground, whatever the room of the runs has
abbrev pub state_in : Ground → StoreState
state_in g = state_of (maps_of g.maps) g.programs

-- on whatever maps, an operation makes these programs of those, with that outcome
abbrev pub Installs : CatalogueView → Operation → InstalledView → Outcome → InstalledView → Type 0
Installs c op before outcome after = (m : Maps) → updated c op (state_of m before) ≡ Some (answered outcome (state_of m after))

-- the programs are for the catalogue's maps, and may be as long as its stores take
abbrev pub IsFitFor : CatalogueView → InstalledView → Type 0
IsFitFor c v = (v.shapes ≡ c.shapes) × (v.long ≡ c.long)

-- they are for the same maps, as many as before, and as long
abbrev pub KeepsSizes : InstalledView → InstalledView → Type 0
KeepsSizes old new = (new.shapes ≡ old.shapes) × (new.places ≡ old.places) × (new.long ≡ old.long)

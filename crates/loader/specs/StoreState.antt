-- What the operations of a store change: its maps, and the programs that were installed.
use Rattle.std.specs.Prelude.{◌≡◌, ℕ, List, []}
use Rattle.maps.specs.declared.shapes.Shape.{Shape}
use Rattle.maps.specs.Maps.{Maps, HasShapes, shapes_of}
use Rattle.maps.specs.MapSets.{opening_maps}
use Rattle.verifier.specs.Accepted.{Checked}
use Rattle.loader.specs.Installed.{InstalledView, IsInstalled}

-- the maps, the programs that were installed, in order, how many of these there may be, and how long one may be
pub record StoreState : Type 0 where
  pub maps : Maps
  pub programs : List Checked
  pub places : ℕ
  pub long : ℕ

-- maps, with these programs
abbrev pub state_of : Maps → InstalledView → StoreState
state_of maps v = record { maps = maps; programs = v.programs; places = v.places; long = v.long }

-- the programs of a state, for its maps
abbrev pub installed_in : StoreState → InstalledView
installed_in s = record { shapes = shapes_of s.maps; places = s.places; long = s.long; programs = s.programs }

-- the sizes of a state, which no operation changes: the shapes of its maps, how many programs may be installed, and how long one may be
pub record StateSizes : Type 0 where
  pub shapes : List Shape
  pub places : ℕ
  pub long : ℕ

abbrev pub sizes_of : StoreState → StateSizes
sizes_of s = record { shapes = shapes_of s.maps; places = s.places; long = s.long }

-- programs that were installed, in a state of these sizes
abbrev pub installed_for : StateSizes → List Checked → InstalledView
installed_for z programs = record { shapes = z.shapes; places = z.places; long = z.long; programs = programs }

-- a state of these sizes: maps of these shapes, and programs that were accepted for them, no more than there may be
pub record IsState (z : StateSizes) (s : StoreState) : Type 0 where
  pub maps : HasShapes z.shapes s.maps
  pub places : s.places ≡ z.places
  pub long : s.long ≡ z.long
  pub programs : IsInstalled (installed_for z s.programs)

-- a new state of these sizes: maps as they are opened, and no program is installed
abbrev pub opened_state : StateSizes → StoreState
opened_state z = record { maps = opening_maps z.shapes; programs = []; places = z.places; long = z.long }

-- the state, with room for so many programs, so long
abbrev pub with_room : StoreState → StateSizes → StoreState
with_room s z = record s { places = z.places; long = z.long }

-- What is kept of the lines before the one that is read. Clauses of private functions alone cite this.
use Rattle.std.specs.Prelude.{◌≡◌, ◌≤◌, true, length, None, bytes_eq}
use Rattle.std.specs.List.{All, IsDistinct}
use Rattle.loader.specs.declared.loading.PartialCatalogue.{PartialCatalogue}
use Rattle.loader.specs.CatalogueView.{CatalogueView, AreFor, AreAccepted, names_of}
use Rattle.loader.specs.declared.loading.TheConstants.{MAX_PROGRAMS}
use Rattle.maps.specs.declared.shapes.MapLimits.{MapLimits}
use Rattle.maps.specs.Shapes.{IsShapeWithin, AreLimits}
use Rattle.loader.specs.Loading.{are_few}

-- the catalogue that they make
abbrev pub view_of : PartialCatalogue → CatalogueView
view_of s = record { shapes = s.shapes.items; programs = s.programs.items; places = 0; long = 0; opening = None }

-- a catalogue without places that opens on a new state, but for its first map
pub record IsPartial (l : MapLimits) (c : CatalogueView) : Type 0 where
  pub limits : AreLimits l
  pub within : All (IsShapeWithin l) c.shapes
  pub few_maps : are_few l c.shapes ≡ true
  pub accepted : AreFor c.shapes c.programs
  pub checked : AreAccepted c.programs
  pub distinct : IsDistinct bytes_eq (names_of c.programs)
  pub few : length c.programs ≤ MAX_PROGRAMS
  pub no_places : c.places ≡ 0
  pub no_long : c.long ≡ 0
  pub no_opening : c.opening ≡ None

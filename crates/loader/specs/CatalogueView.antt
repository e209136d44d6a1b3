-- A catalogue as its callers see it.
use Rattle.std.specs.Prelude.{◌≡◌, ℕ, ◌≤◌, max, List, [], ◌∷◌, length, map, Option, Some, None, IfSome, option_map, bytes_eq}
use Rattle.std.specs.Borrow.{Bor}
use Rattle.std.specs.List.{All, IsDistinct, position_from}
use Rattle.maps.specs.declared.shapes.Shape.{Shape}
use Rattle.maps.specs.Shapes.{AreShapesSupported}
use Rattle.maps.specs.Maps.{shapes_of}
use Rattle.verifier.specs.Accepted.{Checked, IsAccepted}
use Rattle.loader.specs.declared.installed.TheConstants.{MOST_SPARE, MOST_LONG}
use Rattle.loader.specs.Installed.{IsShort}
use Rattle.loader.specs.declared.loading.TheConstants.{MAX_PROGRAMS}
use Rattle.loader.specs.StoreState.{StoreState, StateSizes, IsState, opened_state, with_room}

-- an accepted program and its name
pub record Entry : Type 0 where
  pub name : List ℕ
  pub checked : Checked

-- the maps of a store and its programs, in the manifest's order, how many programs may be installed behind these, the most bytes of one of them,
-- and of its argument, if that is more than 192 and 64, and the state that a store of it opens on, where that is not a new one
pub record CatalogueView : Type 0 where
  pub shapes : List Shape
  pub programs : List Entry
  pub places : ℕ
  pub long : ℕ
  pub opening : Option StoreState

-- the catalogue with `places` places for installed programs, each of at most so many bytes, so that its stores open on a new state
abbrev pub with_long_places : CatalogueView → ℕ → ℕ → CatalogueView
with_long_places c places long = record c { places = places; long = long; opening = None }

-- with places for programs as a `Config`'s store has them
abbrev pub with_places : CatalogueView → ℕ → CatalogueView
with_places c places = with_long_places c places 0

-- the sizes of the states that a store of a catalogue has
abbrev pub sizes_for : CatalogueView → StateSizes
sizes_for c = record { shapes = c.shapes; places = c.places; long = c.long }

-- the most bytes that an argument of these programs has
abbrev pub longest_of : List Entry → ℕ
longest_of [] = 0
longest_of (e ∷ es) = max e.checked.arg_len (longest_of es)

-- no operation has more bytes that are too long for a record: the longest argument of the programs, or `long` if that is more
abbrev pub longest_part : CatalogueView → ℕ
longest_part c = max (longest_of c.programs) c.long

-- ---- what a store opens on

-- the state, or a new one if there is none
abbrev pub or_new : StateSizes → Option StoreState → StoreState
or_new z None = opened_state z
or_new z (Some s) = s

-- the state that a store of a catalogue opens on
abbrev pub opening_state : CatalogueView → StoreState
opening_state c = or_new (sizes_for c) c.opening

-- a store of a catalogue may open on a state: it has the catalogue's maps, no more programs than there may be, and none that is too long
pub record MayOpenOn (c : CatalogueView) (s : StoreState) : Type 0 where
  pub shapes : shapes_of s.maps ≡ c.shapes
  pub few : length s.programs ≤ c.places
  pub short : All (IsShort c.long) s.programs

-- the catalogue, except that its stores open on this state
abbrev pub opened_on : CatalogueView → StoreState → CatalogueView
opened_on c s = record c { opening = Some (with_room s (sizes_for c)) }

-- what is handed in, if anything, is what a store of a catalogue opens on
abbrev pub OpensOn : CatalogueView → Option (Bor StoreState) → Type 0
OpensOn c state = c.opening ≡ option_map (λ s. with_room s.now (sizes_for c)) state

-- ---- what a catalogue keeps to

-- the names of programs
abbrev pub names_of : List Entry → List (List ℕ)
names_of entries = map (λ e. e.name) entries

-- each program was accepted for these maps
abbrev pub AreFor : List Shape → List Entry → Type 0
AreFor shapes entries = All (λ e. e.checked.shapes ≡ shapes) entries

-- each program was accepted
abbrev pub AreAccepted : List Entry → Type 0
AreAccepted entries = All (λ e. IsAccepted e.checked) entries

-- a store may have these maps, each program was accepted, and for them, no name stands twice, there are at most 256 programs, and 4,096 places
-- behind them, for programs of at most 16,384 bytes, and a store may open on what it opens on
pub record IsCatalogue (c : CatalogueView) : Type 0 where
  pub shapes : AreShapesSupported c.shapes
  pub accepted : AreFor c.shapes c.programs
  pub checked : AreAccepted c.programs
  pub distinct : IsDistinct bytes_eq (names_of c.programs)
  pub few : length c.programs ≤ MAX_PROGRAMS
  pub few_places : c.places ≤ MOST_SPARE
  pub few_bytes : c.long ≤ MOST_LONG
  pub opening : IfSome c.opening (IsState (sizes_for c))

-- the number of the first program of this name, from 0
abbrev pub number_named : List Entry → List ℕ → Option ℕ
number_named entries name = position_from (λ e. bytes_eq e.name name) 0 entries

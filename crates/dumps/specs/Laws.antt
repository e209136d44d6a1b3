-- Laws: states and texts are one for one, and the empty text says one state.
use Rattle.std.specs.Prelude.{◌≡◌, ℕ, ◌≤◌, List, [], Ok, IsUtf8}
use Rattle.maps.specs.Shapes.{AreShapesSupported}
use Rattle.loader.specs.declared.installed.TheConstants.{MOST_LONG, MOST_SPARE}
use Rattle.loader.specs.StoreState.{StoreState, StateSizes, IsState, opened_state}
use Rattle.dumps.specs.Loading.{loaded_state}
use Rattle.dumps.specs.Dumping.{dump}

-- what a state is dumped as is loaded as that state
abbrev pub DumpIsRead : Type 0
DumpIsRead = (z : StateSizes) (s : StoreState) → IsState z s → loaded_state z (dump s) ≡ Ok s

-- what a state is dumped as is UTF-8, as all that is loaded has to be
abbrev pub DumpIsText : Type 0
DumpIsText = (s : StoreState) → IsUtf8 (dump s)

-- a text that is loaded as a state is what that state is dumped as
abbrev pub TextIsDumped : Type 0
TextIsDumped = (z : StateSizes) (text : List ℕ) (s : StoreState) → loaded_state z text ≡ Ok s → dump s ≡ text

-- what is loaded is a state of the sizes that it was read for
abbrev pub LoadedIsState : Type 0
LoadedIsState =
    (z : StateSizes) (text : List ℕ) (s : StoreState) → AreShapesSupported z.shapes → z.places ≤ MOST_SPARE → z.long ≤ MOST_LONG → loaded_state z text ≡ Ok s → IsState z s

-- an empty text is loaded as a new state
abbrev pub EmptyIsNew : Type 0
EmptyIsNew = (z : StateSizes) → loaded_state z [] ≡ Ok (opened_state z)

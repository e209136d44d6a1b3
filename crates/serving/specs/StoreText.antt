-- What `serve` answers to `?`: what the store has.
use Rattle.std.specs.Prelude.{ℕ, Bool, List, ◌++◌, length, codes, decimal, bytes_eq}
use Rattle.std.specs.FinMap as finite_map
use Rattle.std.specs.List.{flat_map}
use Rattle.maps.specs.declared.shapes.Shape.{Shape}
use Rattle.maps.specs.declared.shapes.Shape.TheVariants.{Array, Hash}
use Rattle.maps.specs.Maps.{MapState}
use Rattle.verifier.specs.Accepted.{slots_of}
use Rattle.loader.specs.CatalogueView.{CatalogueView, Entry}
use Rattle.loader.specs.Spelling.{mode_word}
use Rattle.loader.specs.StoreState.{StoreState}

-- a line that asks
abbrev pub asks : List ℕ → Bool
asks line = bytes_eq line (codes "?")

-- how many operations came so far, how many lines of maps and of programs follow, and how many programs are installed
abbrev pub counts_line : (appended maps programs installed : ℕ) → List ℕ
counts_line appended maps programs installed =
    codes "appended " ++ (decimal appended ++ (codes " maps " ++ (decimal maps ++ (codes " programs " ++ (decimal programs ++ (codes " installed " ++ (decimal installed ++ codes "\n")))))))

-- a map as a manifest spells it
abbrev pub shape_text : Shape → List ℕ
shape_text (Array value entries) = codes "map array " ++ (decimal value ++ (codes " " ++ decimal entries))
shape_text (Hash key value entries) = codes "map hash " ++ (decimal key ++ (codes " " ++ (decimal value ++ (codes " " ++ decimal entries))))

-- and how many keys the map has
abbrev pub keys_line : Shape → ℕ → List ℕ
keys_line shape keys = shape_text shape ++ (codes " keys " ++ (decimal keys ++ codes "\n"))

abbrev pub map_line : MapState → List ℕ
map_line m = keys_line m.shape (finite_map.len m.entries)

-- a program as a manifest spells it, without its file, and how many slots it has
abbrev pub program_line : Entry → List ℕ
program_line e =
    codes "program " ++ (e.name ++ (codes " " ++ (mode_word e.checked.mode ++ (codes " " ++ (decimal e.checked.arg_len
    ++ (codes " slots " ++ (decimal (slots_of e.checked.program) ++ codes "\n")))))))

-- what a store of a catalogue has after so many operations, in this state
abbrev pub store_text : ℕ → CatalogueView → StoreState → List ℕ
store_text appended c state =
    counts_line appended (length state.maps) (length c.programs) (length state.programs) ++ (flat_map map_line state.maps ++ flat_map program_line c.programs)

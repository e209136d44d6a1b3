-- The text of a state map by map, as it is written. No public clause cites this module.
use Rattle.std.specs.Prelude.{◌≡◌, ℕ, zero, suc, ◌+◌, List, [], ◌∷◌, ◌++◌, Contains, Option, Some, None, is_some, nat_eq, slice_get, unwrap_or, codes, if◌then◌else◌}
use Rattle.std.specs.List.{IsDistinct, flat_map}
use Rattle.std.specs.FinMap as finite_map
use Rattle.maps.specs.declared.shapes.Shape.{Shape}
use Rattle.maps.specs.Maps.{Entries, Maps, MapState}
use Rattle.maps.specs.MapSets.{Contents, Stored, entries_of, flat, key_at}
use Rattle.verifier.specs.Accepted.{Checked}
use Rattle.dumps.specs.Grammar.{EntryLine}
use Rattle.dumps.specs.Loading.{is_left_out}
use Rattle.dumps.specs.Dumping.{entry_text, program_text, program_line}

-- a key and its value
abbrev pub Pair : Type 0
Pair = List ℕ × List ℕ

-- the line of a key and its value in map m
abbrev pub entry_line : ℕ → Pair → EntryLine
entry_line m e = record { map = m; key = e.0; value = e.1 }

-- the line of an entry, unless it is left out
abbrev pub kept_text : ℕ → Shape → Pair → List ℕ
kept_text m shape e = if is_left_out shape e.1 then [] else entry_text (entry_line m e) ++ codes "\n"

-- the lines of map m
abbrev pub map_text : ℕ → MapState → List ℕ
map_text m s = flat_map (kept_text m s.shape) (finite_map.entries s.entries)

-- the lines of maps, the first of which has number n
abbrev pub maps_text : ℕ → Maps → List ℕ
maps_text n [] = []
maps_text n (s ∷ maps) = map_text n s ++ maps_text (n + 1) maps

-- the line of a program
abbrev pub program_line_text : Checked → List ℕ
program_line_text c = program_text (program_line c) ++ codes "\n"

-- ---- the entries at places

-- a key with its value, if it has one
abbrev pub with_value : List ℕ → Option (List ℕ) → List Pair
with_value key None = []
with_value key (Some value) = (key, value) ∷ []

-- the entry of a key, if there is one
abbrev pub with_key : Entries → Option (List ℕ) → List Pair
with_key entries None = []
with_key entries (Some key) = with_value key (finite_map.get entries key)

-- the entry at a place of a map, if the place has a key
abbrev pub entry_at : Stored → ℕ → List Pair
entry_at s place = with_key (entries_of s) (flat (slice_get s.keys place))

-- the entries at places, one after another
abbrev pub entries_at : Stored → List ℕ → List Pair
entries_at s places = flat_map (entry_at s) places

-- the line of the entry at a place of map m, unless that is left out
abbrev pub place_text : ℕ → Stored → ℕ → List ℕ
place_text m s place = flat_map (kept_text m s.shape) (entry_at s place)

-- the bytes of the key at a place of map m; none if the place has no key
abbrev pub bytes_at : Contents → ℕ → ℕ → List ℕ
bytes_at c m place = unwrap_or (key_at c m place) []

-- the places below n that have a key
abbrev pub keyed_below : Stored → ℕ → List ℕ
keyed_below s zero = []
keyed_below s (suc n) = keyed_below s n ++ (if is_some (flat (slice_get s.keys n)) then n ∷ [] else [])

-- no two places have the same key, and each place that has a key is one of these, once
pub record HoldsKeys (s : Stored) (places : List ℕ) : Type 0 where
  pub apart : (p q : ℕ) (key : List ℕ) → slice_get s.keys p ≡ Some (Some key) → slice_get s.keys q ≡ Some (Some key) → p ≡ q
  pub once : IsDistinct nat_eq places
  pub all : (p : ℕ) (key : List ℕ) → slice_get s.keys p ≡ Some (Some key) → Contains places p

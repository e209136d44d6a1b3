-- What a scan of one map gives, and what several give that follow one another.
use Rattle.std.specs.Prelude.{◌≡◌, ◌⊎◌, ℕ, zero, suc, ◌+◌, ◌-◌, ◌*◌, ◌/◌, ◌<◌, ◌≤◌, min, List, [], ◌∷◌, ◌++◌, length, map, Option, Some, None, slice_get, bytes_eq, IfSome}
use Rattle.std.specs.List.{IsDistinct, flat_map}
use Rattle.std.specs.FinMap as finite_map
use Rattle.maps.specs.declared.shapes.Shape.{Shape}
use Rattle.maps.specs.declared.shapes.Shape.TheVariants.{Array, Hash}
use Rattle.maps.specs.declared.entry.Scanned.{Scanned}
use Rattle.maps.specs.Shapes.{key_size, value_size, entry_count}
use Rattle.maps.specs.Maps.{MapState}
use Rattle.maps.specs.MapSets.{Stored, flat, index_keys, map_of, value_in}

-- a key and its value
abbrev pub KeyValue : Type 0
KeyValue = List ℕ × List ℕ

-- how many entries there is room for in so many bytes of keys and of values
abbrev pub room_in : Shape → ℕ → ℕ → ℕ
room_in shape keys values = min (keys / key_size shape) (values / value_size shape)

-- how many places a scan with so much room looks at at most
abbrev pub reach : ℕ → ℕ
reach room = 1024 + 16 * room

-- the first n keys of one block, each with its value in another
abbrev pub given : Shape → ℕ → List ℕ → List ℕ → List KeyValue
given shape zero keys values = []
given shape (suc n) keys values = given shape n keys values ++ (value_in (key_size shape) keys n, value_in (value_size shape) values n) ∷ []

-- entries of a map, none twice, no more than there is room for, and the place to go on from
pub record Scans (s : MapState) (from room : ℕ) (entries : List KeyValue) (next : Option ℕ) : Type 0 where
  pub stand : (i : ℕ) (e : KeyValue) → slice_get entries i ≡ Some e → finite_map.get s.entries e.0 ≡ Some e.1
  pub once : IsDistinct bytes_eq (map (λ e. e.0) entries)
  pub few : length entries ≤ room
  -- all of them, where the scan began at the first place and came to the end
  pub whole : from ≡ 0 → next ≡ None → length entries ≡ finite_map.len s.entries
  -- the scan comes to the end if there is room for as many entries as there are places left
  pub ends : entry_count s.shape ≤ from + room → next ≡ None
  -- else it goes on where its room was full, or behind as many places as it looks at
  pub goes_on : IfSome next (λ p. (from ≤ p) × (p < entry_count s.shape) × (p ≤ from + reach room) × ((length entries ≡ room) ⊎ (p ≡ from + reach room)))
  -- and where there is room for any, further on
  pub moves : 1 ≤ room → IfSome next (λ p. from < p)

-- `Scans`, but of the first entries of two blocks, of keys and of values, each with room for so many bytes
abbrev pub ScansInto : MapState → ℕ → ℕ → ℕ → List ℕ → List ℕ → Scanned → Type 0
ScansInto s from key_room value_room keys values r = Scans s from (room_in s.shape key_room value_room) (given s.shape r.count keys values) r.next

-- ---- pages: which entries a scan gives, by the places where the keys stand

-- a key with its value, if there is one
abbrev pub standing : Option (List ℕ) → List ℕ → List KeyValue
standing None value = []
standing (Some key) value = (key, value) ∷ []

-- the entry at a place, if a key stands there
abbrev pub entry_at : Stored → ℕ → List KeyValue
entry_at s place = standing (flat (slice_get s.keys place)) (value_in (value_size s.shape) s.bytes place)

-- the entries at n places, from the place `from` on
abbrev pub entries_from : Stored → ℕ → ℕ → List KeyValue
entries_from s from zero = []
entries_from s from (suc n) = entries_from s from n ++ entry_at s (from + n)

-- an array's keys stand in the order of their indices
abbrev pub HasIndices : Shape → List (Option (List ℕ)) → Type 0
HasIndices (Array value entries) keys = keys ≡ index_keys 0 entries
HasIndices (Hash key value entries) keys = Unit {0}

-- a map has a place for each entry that it has or may have, and no key stands at two of them
pub record HasPlaces (s : Stored) : Type 0 where
  pub places : length s.keys ≡ entry_count s.shape
  pub apart : (p q : ℕ) (key : List ℕ) → slice_get s.keys p ≡ Some (Some key) → slice_get s.keys q ≡ Some (Some key) → p ≡ q
  pub indices : HasIndices s.shape s.keys

-- where a page ends: at the place to go on from, or behind the last place
abbrev pub page_end : Stored → Option ℕ → ℕ
page_end s None = length s.keys
page_end s (Some place) = place

-- the page of a map from a place on: the entries of all places up to its end, in their order
pub record IsPage (s : Stored) (from : ℕ) (entries : List KeyValue) (next : Option ℕ) : Type 0 where
  pub places : HasPlaces s
  pub forward : from ≤ page_end s next
  pub all : entries ≡ entries_from s from (page_end s next - from)

-- what was given, and the place to go on from
pub record Page : Type 0 where
  pub entries : List KeyValue
  pub next : Option ℕ

-- pages of a map one after another: each begins where the one before it ended, and the last ends behind the last place
abbrev pub ArePages : Stored → Option ℕ → List Page → Type 0
ArePages s None [] = Unit {0}
ArePages s None (page ∷ pages) = ⊥
ArePages s (Some from) [] = ⊥
ArePages s (Some from) (page ∷ pages) = IsPage s from page.entries page.next × ArePages s page.next pages

-- the entries of a map, all of them, each once
pub record GivesAll (m : MapState) (entries : List KeyValue) : Type 0 where
  pub stand : (i : ℕ) (e : KeyValue) → slice_get entries i ≡ Some e → finite_map.get m.entries e.0 ≡ Some e.1
  pub each : (key value : List ℕ) → finite_map.get m.entries key ≡ Some value → (i : ℕ) × (slice_get entries i ≡ Some (key, value))
  pub once : IsDistinct bytes_eq (map (λ e. e.0) entries)

-- ---- laws

-- two pages of a map, the second from where the first ended, are one page
abbrev pub PagesJoin : Type 0
PagesJoin =
    (s : Stored) (from place : ℕ) (entries more : List KeyValue) (next : Option ℕ)
    → IsPage s from entries (Some place) → IsPage s place more next → IsPage s from (entries ++ more) next

-- pages of a map from its first place to its last together give each of its keys once, with its value
abbrev pub PagesGiveAll : Type 0
PagesGiveAll = (s : Stored) (pages : List Page) → ArePages s (Some 0) pages → GivesAll (map_of s) (flat_map (λ page. page.entries) pages)

-- ---- clauses of private functions alone cite what follows

-- of parts of so many bytes those other than number n stay
pub record KeepsParts (size n : ℕ) (old new : List ℕ) : Type 0 where
  pub len : length new ≡ length old
  pub others : (i : ℕ) → (i ≡ n → ⊥) → value_in size new i ≡ value_in size old i

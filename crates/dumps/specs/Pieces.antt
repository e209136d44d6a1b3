-- The text that is left of a state, by the tables of the places of its keys. No clause of a call cites this module.
use Rattle.std.specs.Prelude.{◌≡◌, ℕ, ◌+◌, ◌-◌, ◌<◌, ◌≤◌, List, [], ◌∷◌, ◌++◌, drop, length, map, slice_get, Vec}
use Rattle.std.specs.List.{flat_map}
use Rattle.std.specs.Option.{option_map_or}
use Rattle.maps.specs.Shapes.{AreShapesSupported}
use Rattle.maps.specs.MapSets.{Contents, maps_of, stored_shapes}
use Rattle.loader.specs.Installed.{InstalledView}
use Rattle.loader.specs.StoreState.{state_of}
use Rattle.dumps.specs.Dumping.{dump}
use Rattle.dumps.specs.declared.pieces.Left.{Left}
use Rattle.dumps.specs.declared.pieces.Next.{Next}
use Rattle.dumps.specs.declared.pieces.Row.{Row}
use Rattle.dumps.specs.Written.{maps_text, place_text}

-- the line of the entry at a place of map m, unless there is none
abbrev pub row_text : Contents → ℕ → ℕ → List ℕ
row_text c m place = option_map_or (λ s. place_text m s place) (slice_get c m) []

-- the lines of tables of places, the first that of map m
abbrev pub tables_text : Contents → ℕ → List (List ℕ) → List ℕ
tables_text c m [] = []
tables_text c m (table ∷ tables) = flat_map (row_text c m) table ++ tables_text c (m + 1) tables

-- the lines of tables from a row of the first on, which is that of map m
abbrev pub rest_of : Contents → ℕ → ℕ → List (List ℕ) → List ℕ
rest_of c m row [] = []
rest_of c m row (table ∷ tables) = flat_map (row_text c m) (drop row table) ++ tables_text c (m + 1) tables

-- the lines of tables from this row of map m's on
abbrev pub left_in : Contents → List (List ℕ) → ℕ → ℕ → List ℕ
left_in c tables m row = rest_of c m row (drop m tables)

-- how many rows tables have
abbrev pub row_count : List (List ℕ) → ℕ
row_count [] = 0
row_count (table ∷ tables) = length table + row_count tables

-- how many rows are left
abbrev pub rest_count : ℕ → List (List ℕ) → ℕ
rest_count row [] = 0
rest_count row (table ∷ tables) = (length table - row) + row_count tables

abbrev pub rows_left : List (List ℕ) → ℕ → ℕ → ℕ
rows_left tables m row = rest_count row (drop m tables)

-- what is left of the lines of tables, and of the lines after them
abbrev pub left_text : Contents → List (List ℕ) → List ℕ → Next → List ℕ
left_text c tables lines next = left_in c tables next.map next.row ++ drop next.byte lines

-- these bytes were given of what was left, and this is left now
abbrev pub Gives : Contents → List (List ℕ) → List ℕ → (old new : Next) → (given : List ℕ) → Type 0
Gives c tables lines old new given = left_text c tables lines old ≡ given ++ left_text c tables lines new

-- of the lines that were left this row's is the first, and these are left now, whatever the maps hold
abbrev pub GivesRow : List (List ℕ) → (old new : Next) → Row → Type 0
GivesRow tables old new r = (c : Contents) → left_in c tables old.map old.row ≡ row_text c r.map r.place ++ left_in c tables new.map new.row

-- fewer rows are left
abbrev pub HasFewer : List (List ℕ) → (old new : Next) → Type 0
HasFewer tables old new = rows_left tables new.map new.row < rows_left tables old.map old.row

-- a table for each of the first m maps, and their lines are those of these maps
abbrev pub HaveLines : Contents → ℕ → List (List ℕ) → Type 0
HaveLines c m tables = (length tables ≡ m) × (tables_text c 0 tables ++ maps_text m (drop m (maps_of c)) ≡ maps_text 0 (maps_of c))

-- ---- by code

abbrev pub rows_of : {X : Type 0} → List (Vec ℕ X) → List (List ℕ)
rows_of tables = map (λ t. t.items) tables

abbrev pub left_of : Contents → Left → List ℕ
left_of c l = left_text c (rows_of l.tables.items) l.lines.items l.next

-- what is left, but from here on
abbrev pub left_from : Left → Next → Left
left_from l next = record l { next = next }

-- a store may have these maps, no more tables are left than there are maps, and the programs' lines go on at one of their bytes
abbrev pub IsLeftOf : Contents → Left → Type 0
IsLeftOf c l = AreShapesSupported (stored_shapes c) × (length l.tables.items ≤ length (stored_shapes c)) × (l.next.byte ≤ length l.lines.items)

-- all of the text of maps and programs is left
abbrev pub IsWhole : Contents → InstalledView → Left → Type 0
IsWhole c programs l = IsLeftOf c l × (left_of c l ≡ dump (state_of (maps_of c) programs))

-- What is left of a state's text, row by row and table by table.
use Rattle.std.proofs.Common.{append_assoc, append-nil, ◌≡◌, ℕ, suc, ◌+◌, ◌-◌, ◌<◌, ◌≤◌, List, [], ◌∷◌, ◌++◌, length, take, drop, get_or, unwrap_or, Some, Vec, refl, sym, ap, ap₂, ◌∙◌, subst, arith, take-append-drop, drop-drop, le_refl}
use Rattle.std.specs.Prelude.{slice_get}
use Rattle.std.specs.Option.{option_map, option_map_or}
use Rattle.std.specs.List.{flat_map}
use Rattle.std.specs.FinMap as finite_map
use Rattle.std.proofs.lemmas.Option.{slice_get-map, unwrap_or-slice_get}
use Rattle.maps.specs.Maps.{MapState}
use Rattle.maps.specs.MapSets.{Contents, Stored, entries_of, map_of, maps_of, stored_shapes}
use Rattle.maps.proofs.Export.{stored_there}
use Rattle.loader.specs.Installed.{InstalledView}
use Rattle.loader.specs.StoreState.{state_of}
use Rattle.dumps.specs.Dumping.{dump}
use Rattle.dumps.specs.Written.{entries_at, kept_text, map_text, maps_text, place_text, program_line_text}
use Rattle.dumps.specs.Pieces.{HaveLines, left_in, left_text, rest_count, rest_of, row_count, row_text, rows_left, rows_of, tables_text}
use Rattle.dumps.proofs.Writing.{dropped, dumped, flat_twice, maps_end, none_left, there}

-- ---- rows

pub row_is : (c : Contents) (m place : ℕ) (s : Stored) → slice_get c m ≡ Some s → row_text c m place ≡ place_text m s place
row_is c m place s at = ap (λ o. option_map_or (λ s. place_text m s place) o []) at

first_rows : (c : Contents) (m : ℕ) (tables : List (List ℕ)) → rest_of c m 0 tables ≡ tables_text c m tables
first_rows c m [] = refl
first_rows c m (table ∷ tables) = refl

pub table_there : {X : Type 0} (tables : List (Vec ℕ X)) (m : ℕ) (t : Vec ℕ X) → m < length tables → t ≡ get_or tables m t → slice_get (rows_of tables) m ≡ Some t.items
table_there {X} tables m t low is =
    let at = there tables m low in
    let same : t ≡ at.0 = is ∙ sym (unwrap_or-slice_get tables m t) ∙ ap (λ o. unwrap_or o t) at.1 in
    slice_get-map (λ (u : Vec ℕ X). u.items) tables m ∙ ap (option_map (λ (u : Vec ℕ X). u.items)) at.1 ∙ ap (λ (u : Vec ℕ X). Some u.items) (sym same)

-- the next row of a table
pub row_on : (c : Contents) (tables : List (List ℕ)) (m row : ℕ) (table : List ℕ) (x : ℕ) → slice_get tables m ≡ Some table → row < length table → x ≡ get_or table row x → left_in c tables m row ≡ row_text c m x ++ left_in c tables m (row + 1)
row_on c tables m row table x at low is =
    let here = there table row low in
    let same : here.0 ≡ x = sym (is ∙ sym (unwrap_or-slice_get table row x) ∙ ap (λ o. unwrap_or o x) here.1) in
    let rest = tables_text c (m + 1) (drop (m + 1) tables) in
    ap (rest_of c m row) (dropped tables m table at) ∙ ap (λ u. flat_map (row_text c m) u ++ rest) (dropped table row here.0 here.1)
    ∙ append_assoc (row_text c m here.0) (flat_map (row_text c m) (drop (row + 1) table)) rest ∙ ap₂ (λ p u. row_text c m p ++ u) same (sym (ap (rest_of c m (row + 1)) (dropped tables m table at)))

-- the next table
pub table_on : (c : Contents) (tables : List (List ℕ)) (m row : ℕ) (table : List ℕ) → slice_get tables m ≡ Some table → length table ≤ row → left_in c tables m row ≡ left_in c tables (m + 1) 0
table_on c tables m row table at past =
    ap (rest_of c m row) (dropped tables m table at) ∙ ap (λ u. flat_map (row_text c m) u ++ tables_text c (m + 1) (drop (m + 1) tables)) (none_left table row past) ∙ sym (first_rows c (m + 1) (drop (m + 1) tables))

-- ---- how many

count_first : (tables : List (List ℕ)) → rest_count 0 tables ≡ row_count tables
count_first [] = refl
count_first (table ∷ tables) = let e : length table - 0 ≡ length table = omega arith in ap (λ n. n + row_count tables) e

pub count_row : (tables : List (List ℕ)) (m row : ℕ) (table : List ℕ) → slice_get tables m ≡ Some table → row < length table → rows_left tables m (row + 1) < rows_left tables m row
count_row tables m row table at low =
    let now = ap (rest_count row) (dropped tables m table at) in
    let next = ap (rest_count (row + 1)) (dropped tables m table at) in
    omega (arith, now, next, low)

pub count_table : (tables : List (List ℕ)) (m row : ℕ) (table : List ℕ) → slice_get tables m ≡ Some table → length table ≤ row → rows_left tables (m + 1) 0 ≤ rows_left tables m row
count_table tables m row table at past =
    let now = ap (rest_count row) (dropped tables m table at) in
    let next = count_first (drop (m + 1) tables) in
    omega (arith, now, next, past)

-- ---- the tables of all maps

rows_are : (c : Contents) (m : ℕ) (s : Stored) (ps : List ℕ) → slice_get c m ≡ Some s → flat_map (row_text c m) ps ≡ flat_map (place_text m s) ps
rows_are c m s [] at = refl
rows_are c m s (p ∷ ps) at = ap₂ (λ t u. t ++ u) (row_is c m p s at) (rows_are c m s ps at)

-- the rows of the table of map m are its lines
pub table_is : (c : Contents) (m : ℕ) (ps : List ℕ) → m < length (stored_shapes c) → ((s : Stored) → slice_get c m ≡ Some s → entries_at s ps ≡ finite_map.entries (entries_of s))
    → (t : MapState) × (slice_get (maps_of c) m ≡ Some t) × (flat_map (row_text c m) ps ≡ map_text m t)
table_is c m ps low sorted =
    let s = stored_there c m low in
    (map_of s.0, s.2, rows_are c m s.0 ps s.1 ∙ flat_twice m s.0 ps ∙ ap (flat_map (kept_text m s.0.shape)) (sorted s.0 s.1))

one_more_table : (c : Contents) (n : ℕ) (tables : List (List ℕ)) (table : List ℕ) → tables_text c n (tables ++ table ∷ []) ≡ tables_text c n tables ++ flat_map (row_text c (n + length tables)) table
one_more_table c n [] table = append-nil (flat_map (row_text c n) table) ∙ ap (λ m. flat_map (row_text c m) table) (let e : n ≡ n + 0 = omega arith in e)
one_more_table c n (t ∷ tables) table =
    ap (λ u. flat_map (row_text c n) t ++ u) (one_more_table c (n + 1) tables table ∙ ap (λ m. tables_text c (n + 1) tables ++ flat_map (row_text c m) table) (let e : n + 1 + length tables ≡ n + suc (length tables) = omega arith in e))
    ∙ sym (append_assoc (flat_map (row_text c n) t) (tables_text c (n + 1) tables) (flat_map (row_text c (n + suc (length tables))) table))

pub table_more : (c : Contents) (m : ℕ) (tables : List (List ℕ)) (ps : List ℕ) → m < length (stored_shapes c) → ((s : Stored) → slice_get c m ≡ Some s → entries_at s ps ≡ finite_map.entries (entries_of s))
    → HaveLines c m tables → HaveLines c (m + 1) (tables ++ ps ∷ [])
table_more c m tables ps low sorted h =
    let t = table_is c m ps low sorted in
    let long : length (tables ++ ps ∷ []) ≡ m + 1 = length_more tables ps ∙ ap (λ n. n + 1) h.0 in
    let rest = maps_text (m + 1) (drop (m + 1) (maps_of c)) in (
      long,
      ap (λ u. u ++ rest) (one_more_table c 0 tables ps ∙ ap (λ n. tables_text c 0 tables ++ flat_map (row_text c n) ps) (let first = h.0 in let e : 0 + length tables ≡ m = omega (arith, first) in e) ∙ ap (λ u. tables_text c 0 tables ++ u) t.2)
          ∙ append_assoc (tables_text c 0 tables) (map_text m t.0) rest ∙ ap (λ u. tables_text c 0 tables ++ u) (sym (ap (maps_text m) (dropped (maps_of c) m t.0 t.1))) ∙ h.1,
    )
  where
    length_more : (ts : List (List ℕ)) (t : List ℕ) → length (ts ++ t ∷ []) ≡ length ts + 1
    length_more [] t = refl
    length_more (x ∷ ts) t = let e = length_more ts t in omega (arith, e)

rows_more : {X : Type 0} (tables : List (Vec ℕ X)) (t : Vec ℕ X) → rows_of (tables ++ t ∷ []) ≡ rows_of tables ++ t.items ∷ []
rows_more [] t = refl
rows_more (x ∷ tables) t = ap (λ ts. x.items ∷ ts) (rows_more tables t)

pub pushed_more : {X : Type 0} (c : Contents) (m : ℕ) (tables new : List (Vec ℕ X)) (t : Vec ℕ X) → new ≡ tables ++ t ∷ [] → m < length (stored_shapes c)
    → ((s : Stored) → slice_get c m ≡ Some s → entries_at s t.items ≡ finite_map.entries (entries_of s)) → HaveLines c m (rows_of tables) → HaveLines c (m + 1) (rows_of new)
pushed_more c m tables new t is low sorted h = subst (HaveLines c (m + 1)) (sym (ap rows_of is ∙ rows_more tables t)) (table_more c m (rows_of tables) t.items low sorted h)

-- ---- the text

pub parts_text : (c : Contents) (tables : List (List ℕ)) (lines : List ℕ) (v : InstalledView) → HaveLines c (length (stored_shapes c)) tables → lines ≡ flat_map program_line_text v.programs
    → left_text c tables lines (record { map = 0; row = 0; byte = 0 }) ≡ dump (state_of (maps_of c) v)
parts_text c tables lines v h programs =
    let whole = maps_end c (length (stored_shapes c)) (tables_text c 0 tables) (maps_text 0 (maps_of c)) (le_refl _) h.1 in
    ap (λ u. u ++ lines) (first_rows c 0 tables ∙ whole) ∙ ap (λ ls. maps_text 0 (maps_of c) ++ ls) programs ∙ dumped (state_of (maps_of c) v)

-- a row that was written
pub row_read : (all t u x a b d e : List ℕ) → all ≡ t ++ (a ++ d) → a ≡ x ++ b → u ≡ t ++ x → e ≡ d → all ≡ u ++ (b ++ e)
row_read all t u x a b d e before row written same =
    before ∙ ap (λ y. t ++ (y ++ d)) row ∙ ap (λ y. t ++ y) (append_assoc x b d) ∙ sym (append_assoc t x (b ++ d)) ∙ ap₂ (λ y z. y ++ (b ++ z)) (sym written) (sym same)

-- what is the same from one place on, is the same from a later one on
pub later_same : (n m : ℕ) (xs ys : List ℕ) → n ≤ m → drop n xs ≡ drop n ys → drop m xs ≡ drop m ys
later_same n m xs ys low same =
    let e : m ≡ n + (m - n) = omega (arith, low) in
    ap (λ k. drop k xs) e ∙ sym (drop-drop (m - n) n xs) ∙ ap (drop (m - n)) same ∙ drop-drop (m - n) n ys ∙ ap (λ k. drop k ys) (sym e)

-- bytes of lines that were written
pub part_is : (t o piece lines : List ℕ) (byte count : ℕ) → t ≡ o ++ piece → piece ≡ take count (drop byte lines) → t ++ drop (byte + count) lines ≡ o ++ drop byte lines
part_is t o piece lines byte count written is =
    ap (λ u. u ++ drop (byte + count) lines) (written ∙ ap (λ u. o ++ u) is) ∙ append_assoc o (take count (drop byte lines)) (drop (byte + count) lines)
    ∙ ap (λ u. o ++ u) (ap (λ u. take count (drop byte lines) ++ u) (sym (drop-drop count byte lines)) ∙ take-append-drop count (drop byte lines))

-- A map whose table is exchanged for one where a key has been put.
use Rattle.std.proofs.Common.{◌≡◌, ◌≢◌, Bool, true, false, not, ℕ, zero, suc, ◌*◌, ◌<◌, ◌≤◌, List, [], ◌∷◌, length, Some, refl, sym, ap, ◌∙◌, arith, subst, get_or}
use Rattle.std.specs.Prelude.{slice_get, slice_set, is_some, IfSome}
use Rattle.std.specs.FinMap as finite_map
use Rattle.std.proofs.lemmas.List.{length-map}
use Rattle.keyindex.specs.Places.{filled}
use Rattle.maps.specs.declared.table.Table.{Table}
use Rattle.maps.specs.declared.entry.Entry.{Entry}
use Rattle.maps.specs.Shapes.{IsHash, value_size, entry_count}
use Rattle.maps.specs.Maps.{MapState, value_at}
use Rattle.maps.specs.MapSets.{Stored, Contents, value_in, entries_of, maps_of, key_at, stored_shapes, change_at, write_value, put_value, PutsWritten, HasRoom, IsFull}
use Rattle.maps.specs.Blocks.{keys_at, stored, contents, HasFreePlace, IsTable, AreTables}
use Rattle.maps.specs.Lent.{with_bytes}
use Rattle.maps.proofs.Placed.{len_placed}
use Rattle.maps.proofs.Stored.{IsAt, is_at, table_at, within, many_tables, map_at, key_stands, of_shape, distinct, present, missing}
use Rattle.maps.proofs.Written.{tables_kept, view_written, view_exchanged, maps_exchanged}
use Rattle.maps.proofs.TableKeys.{IsClaimed, put_entries}

set_set : (ts : List Table) (m : ℕ) (u v : Table) → slice_set (slice_set ts m u) m v ≡ slice_set ts m v
set_set [] m u v = refl
set_set (x ∷ ts) zero u v = refl
set_set (x ∷ ts) (suc m) u v = ap (λ r. x ∷ r) (set_set ts m u v)

length_set : (ts : List Table) (m : ℕ) (u : Table) → length (slice_set ts m u) ≡ length ts
length_set [] m u = refl
length_set (x ∷ ts) zero u = refl
length_set (x ∷ ts) (suc m) u = ap suc (length_set ts m u)

set_there : (ts : List Table) (m : ℕ) (u : Table) → m < length ts → u ≡ get_or (slice_set ts m u) m u
set_there [] m u h = absurd (omega (arith, h))
set_there (x ∷ ts) zero u h = refl
set_there (x ∷ ts) (suc m) u h = set_there ts m u (omega (arith, h))

change_same : (c : Contents) (m : ℕ) (s r : Stored) → slice_get c m ≡ Some s → r ≡ s → change_at (λ _. r) c m ≡ c
change_same [] m s r e is = refl
change_same (x ∷ c) zero s r e is = let same : s ≡ x = cc in ap (λ y. y ∷ c) (is ∙ same)
change_same (x ∷ c) (suc m) s r e is = ap (λ ys. x ∷ ys) (change_same c m s r e is)

-- table u for table t, of the same shape and with the same values
pub record IsExchanged (ts : List Table) (c : Contents) (m : ℕ) (t u : Table) : Type 0 where
  pub tables : AreTables ts
  pub view : contents ts ≡ c
  pub inside : m < length c
  pub at : t ≡ get_or ts m t
  pub there : IsAt c m t

pub exchanged : (ts : List Table) (c : Contents) (m : ℕ) (t u : Table) → contents ts ≡ c → AreTables ts → m < length (stored_shapes c) → t ≡ get_or ts m t → IsExchanged ts c m t u
exchanged ts c m t u is tables map e = record { tables = tables; view = is; inside = within c m map; at = e; there = table_at ts c m t is tables map e }

pub within_tables : (ts : List Table) (c : Contents) (m : ℕ) (t u : Table) → IsExchanged ts c m t u → m < length ts
within_tables ts c m t u h = many_tables ts c m h.view h.inside

-- the other table is there now
pub now_there : (ts : List Table) (c : Contents) (m : ℕ) (t u : Table) → IsExchanged ts c m t u → u.shape ≡ t.shape → IsTable u → IsAt (contents (slice_set ts m u)) m u
now_there ts c m t u h same fits =
    let low = within_tables ts c m t u h in
    let us = slice_set ts m u in
    let tables = tables_kept ts m t u h.tables h.at same fits in
    let inside : m < length (contents us) = let a = length-map us stored in let b = length_set ts m u in omega (arith, low, a, b) in
    is_at us (contents us) m u refl tables inside (set_there ts m u low)

-- the key stands in the set
pub entry_stands : (ts : List Table) (c : Contents) (m : ℕ) (t u : Table) (key : List ℕ) (place : ℕ) → IsExchanged ts c m t u → IsClaimed t u key place → key_at (contents (slice_set ts m u)) m place ≡ Some key
entry_stands ts c m t u key place h is = key_stands (contents (slice_set ts m u)) m place u key (now_there ts c m t u h is.shape is.table) is.claimed.stands

-- a value written there
pub puts_written : (ts : List Table) (c : Contents) (m : ℕ) (t u : Table) (key : List ℕ) (e : Entry) → IsExchanged ts c m t u → IsClaimed t u key e.place → e.map ≡ m → PutsWritten c (contents (slice_set ts m u)) m key e
puts_written ts c m t u key e h is same = λ w. of_shape (λ s. length w ≡ value_size s → maps_of (write_value (contents (slice_set ts m u)) e w) ≡ put_value (maps_of c) m key w) c m (stored t) h.there.there (λ many.
    let low = within_tables ts c m t u h in
    let us = slice_set ts m u in
    let size = value_size u.shape in
    let v = with_bytes u (e.place * size) w in
    let len : length us ≡ length ts = length_set ts m u in
    let first : contents (slice_set us m v) ≡ write_value (contents us) e w =
    subst (λ n. contents (slice_set us n v) ≡ write_value (contents us) e w) same
    (view_written us (contents us) e u size w refl (subst (λ n. n < length us) (sym same) (omega (arith, low, len))) (subst (λ n. u ≡ get_or us n u) (sym same) (set_there ts m u low)) refl) in
    let entries = put_entries t u key w e.place size h.there.ok is refl many in
    ap maps_of (sym first)
    ∙ (ap (λ l. maps_of (contents l)) (set_set ts m u v)
    ∙ (ap maps_of (view_exchanged ts c m t v h.view low h.at)
    ∙ maps_exchanged c m t v (λ (s : MapState). record { shape = s.shape; entries = finite_map.insert s.entries key w }) h.there
    (ap (λ k. record { shape = k; entries = entries_of (stored v) }) is.shape ∙ ap (λ x. record { shape = t.shape; entries = x }) entries))))

-- as before
pub exchanged_same : (ts : List Table) (c : Contents) (m : ℕ) (t u : Table) → IsExchanged ts c m t u → u.shape ≡ t.shape → u.block ≡ t.block → keys_at u.shape u.index ≡ keys_at t.shape t.index → contents (slice_set ts m u) ≡ c
exchanged_same ts c m t u h shape block keys =
    view_exchanged ts c m t u h.view (within_tables ts c m t u h) h.at
    ∙ change_same c m (stored t) (stored u) h.there.there
    (ap (λ k. record { shape = k; keys = keys_at u.shape u.index; bytes = u.block.items }) shape
    ∙ (ap (λ k. record { shape = t.shape; keys = k; bytes = u.block.items }) keys ∙ ap (λ b. record { shape = t.shape; keys = keys_at t.shape t.index; bytes = b.items }) block))

pub exchanged_stored : (ts : List Table) (c : Contents) (m : ℕ) (t u : Table) → IsExchanged ts c m t u → stored u ≡ stored t → contents (slice_set ts m u) ≡ c
exchanged_stored ts c m t u h same = view_exchanged ts c m t u h.view (within_tables ts c m t u h) h.at ∙ change_same c m (stored t) (stored u) h.there.there same

-- whether the key was there
pub was_found : (c : Contents) (m place : ℕ) (t : Table) (key : List ℕ) (new : Bool) → IsAt c m t → (new ≡ false → slice_get (stored t).keys place ≡ Some (Some key)) → (new ≡ true → (p : ℕ) → slice_get (stored t).keys p ≢ Some (Some key))
    → is_some (value_at (maps_of c) m key) ≡ not new
was_found c m place t key true at found none = ap is_some (missing c m t key at (none refl))
was_found c m place t key false at found none = ap is_some (present c m place t key at (found refl))

pub was_there : (c : Contents) (m : ℕ) (t : Table) (key : List ℕ) (had : Bool) → IsAt c m t → (had ≡ true → (p : ℕ) × (slice_get (stored t).keys p ≡ Some (Some key))) → (had ≡ false → (p : ℕ) → slice_get (stored t).keys p ≢ Some (Some key))
    → had ≡ is_some (value_at (maps_of c) m key)
was_there c m t key true at there none = let p = there refl in sym (ap is_some (present c m p.0 t key at p.1))
was_there c m t key false at there none = sym (ap is_some (missing c m t key at (none refl)))

pub is_full : (c : Contents) (m : ℕ) (t : Table) → IsAt c m t → (IsHash t.shape → entry_count t.shape ≤ filled (stored t).keys) → IfSome (slice_get (maps_of c) m) IsFull
is_full c m t at full =
    let many = len_placed (keys_at t.shape t.index) (value_in (value_size t.shape) t.block.items) 0 (distinct t.shape t.index at.ok.entries.1) in
    subst (λ o. IfSome o IsFull) (sym (map_at c m (stored t) at.there)) (λ hash. subst (λ n. entry_count t.shape ≤ n) (sym many) (full hash))

pub has_room : (c : Contents) (m place : ℕ) (t : Table) (key : List ℕ) (new : Bool) → IsAt c m t → (new ≡ false → slice_get (stored t).keys place ≡ Some (Some key)) → (new ≡ true → HasFreePlace t) → HasRoom (maps_of c) m key
has_room c m place t key true at found room = λ none.
    let many = len_placed (keys_at t.shape t.index) (value_in (value_size t.shape) t.block.items) 0 (distinct t.shape t.index at.ok.entries.1) in
    let free = room refl in
    subst (λ o. IfSome o (λ (s : MapState). IsHash s.shape × (finite_map.len s.entries < entry_count s.shape))) (sym (map_at c m (stored t) at.there)) (free.0, subst (λ n. n < entry_count t.shape) (sym many) free.1)
has_room c m place t key false at found room = λ none. absurd (let no : true ≡ false = sym (ap is_some (present c m place t key at (found refl))) ∙ none in cc)

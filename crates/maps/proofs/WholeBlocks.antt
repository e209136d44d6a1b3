-- All values of a map as one block: which value stands where, and what is known once the block is written over.
use Rattle.std.proofs.Common.{◌≡◌, ◌≢◌, ℕ, zero, suc, ◌*◌, ◌<◌, List, [], ◌∷◌, ◌++◌, length, take, drop, Some, refl, sym, ap, ◌∙◌, arith, subst, get_or}
use Rattle.std.specs.Prelude.{slice_get, slice_set, IfSome}
use Rattle.std.specs.List.{length_refill}
use Rattle.std.specs.Option.{option_map}
use Rattle.std.proofs.lemmas.List.{drop_all, append-nil}
use Rattle.maps.specs.Shapes.{value_size}
use Rattle.maps.specs.declared.table.Table.{Table}
use Rattle.maps.specs.declared.entry.Entry.{Entry}
use Rattle.maps.specs.MapSets.{Stored, Contents, maps_of, key_of, stored_shapes, block_of, HoldsValues, change_at, write_over, write_value, write_block, put_value}
use Rattle.maps.specs.Blocks.{keys_at, stored, contents, AreTables}
use Rattle.maps.specs.Lent.{with_bytes}
use Rattle.maps.proofs.Stored.{is_at, of_shape, value_is}
use Rattle.maps.proofs.Written.{whole, change_map, fits_written, tables_kept, others_kept, keep_keys, keep_shapes, maps_written}

-- ---- the block and its values

pub block_is : (c : Contents) (m : ℕ) (s : Stored) → slice_get c m ≡ Some s → block_of c m ≡ Some s.bytes
block_is c m s there = ap (option_map (λ (x : Stored). x.bytes)) there

pub holds_values : (ts : List Table) (c : Contents) (m : ℕ) (t : Table) → contents ts ≡ c → AreTables ts → m < length c → t ≡ get_or ts m t → HoldsValues c m t.block.items
holds_values ts c m t is full within at = λ e same stands.
    of_shape _ c m (stored t) (is_at ts c m t is full within at).there
    (value_is ts c e.map e.place t (value_size t.shape) is full stands (subst (λ n. t ≡ get_or ts n t) (sym same) at) refl)

-- ---- bytes

-- bytes written over by as many
pub over_whole : (bytes w : List ℕ) → length w ≡ length bytes → write_over bytes 0 w ≡ w
over_whole bytes w same =
    let all : w ++ drop (length w) bytes ≡ w = ap (λ r. w ++ r) (drop_all (length w) bytes (omega (arith, same))) ∙ append-nil w in
    whole (length bytes) bytes (w ++ drop (length w) bytes) refl (ap length all ∙ same) ∙ all

pub over_length : (bytes : List ℕ) (i : ℕ) (w : List ℕ) → length (write_over bytes i w) ≡ length bytes
over_length bytes i w = sym (length_refill (length bytes) bytes (take i bytes ++ (w ++ drop (length w) (drop i bytes))) refl)

-- ---- the tables

pub view_block : (ts : List Table) (c : Contents) (m : ℕ) (t : Table) (w : List ℕ) → contents ts ≡ c → m < length ts → t ≡ get_or ts m t
    → contents (slice_set ts m (with_bytes t 0 w)) ≡ write_block c m w
view_block ts c m t w is h at =
    change_map ts m t (with_bytes t 0 w) (λ s. record { shape = s.shape; keys = s.keys; bytes = write_over s.bytes 0 w }) h at
    (ap (λ n. record { shape = t.shape; keys = keys_at t.shape t.index; bytes = take n ((w ++ drop (length w) t.block.items) ++ drop (length (w ++ drop (length w) t.block.items)) t.block.items) }) t.block.ok.0)
    ∙ ap (λ x. write_block x m w) is

pub full_block : (ts : List Table) (c : Contents) (m : ℕ) (t : Table) (start : ℕ) (w : List ℕ) → contents ts ≡ c → AreTables ts → m < length c → t ≡ get_or ts m t
    → AreTables (slice_set ts m (with_bytes t start w))
full_block ts c m t start w is full within at = tables_kept ts m t (with_bytes t start w) full at refl (fits_written t start w (is_at ts c m t is full within at).table)

-- ---- what is written, and what stays

changed_there : (f : Stored → Stored) (c : Contents) (m : ℕ) (s : Stored) → slice_get c m ≡ Some s → slice_get (change_at f c m) m ≡ Some (f s)
changed_there f [] m s e = absurd cc
changed_there f (x ∷ c) zero s e = let same : x ≡ s = cc in ap (λ y. Some (f y)) same
changed_there f (x ∷ c) (suc m) s e = changed_there f c m s e

changed_alike : (f g : Stored → Stored) (c : Contents) (m : ℕ) (s : Stored) → slice_get c m ≡ Some s → f s ≡ g s → change_at f c m ≡ change_at g c m
changed_alike f g [] m s e same = refl
changed_alike f g (x ∷ c) zero s e same = let is : s ≡ x = cc in ap (λ y. y ∷ c) (subst (λ y. f y ≡ g y) is same)
changed_alike f g (x ∷ c) (suc m) s e same = ap (λ ys. x ∷ ys) (changed_alike f g c m s e same)

pub block_written : (c : Contents) (m : ℕ) (s : Stored) (w : List ℕ) → slice_get c m ≡ Some s → length w ≡ length s.bytes → block_of (write_block c m w) m ≡ Some w
block_written c m s w there same = ap (option_map (λ (x : Stored). x.bytes)) (changed_there _ c m s there) ∙ ap Some (over_whole s.bytes w same)

pub other_blocks_kept : (c : Contents) (m : ℕ) (w : List ℕ) (n : ℕ) → n ≢ m → slice_get (write_block c m w) n ≡ slice_get c n
other_blocks_kept c m w n ne = others_kept _ c m n ne

pub places_kept : (c : Contents) (m : ℕ) (w : List ℕ) (e : Entry) → key_of (write_block c m w) e ≡ key_of c e
places_kept c m w e = keep_keys _ (λ _. refl) c m e.map e.place

pub block_shapes_kept : (c : Contents) (m : ℕ) (w : List ℕ) → stored_shapes (write_block c m w) ≡ stored_shapes c
block_shapes_kept c m w = keep_shapes _ (λ _. refl) c m

-- the block with one value written over is the map with that value written over
pub one_written : (c : Contents) (e : Entry) (s : Stored) (v : List ℕ) → slice_get c e.map ≡ Some s → write_block c e.map (write_over s.bytes (e.place * value_size s.shape) v) ≡ write_value c e v
one_written c e s v there =
    changed_alike _ _ c e.map s there
    (ap (λ b. record { shape = s.shape; keys = s.keys; bytes = b }) (over_whole s.bytes (write_over s.bytes (e.place * value_size s.shape) v) (over_length s.bytes (e.place * value_size s.shape) v)))

pub value_put : (ts : List Table) (c : Contents) (m : ℕ) (t : Table) (key v : List ℕ) (e : Entry) → contents ts ≡ c → AreTables ts → m < length c → t ≡ get_or ts m t → e.map ≡ m → key_of c e ≡ Some key
    → IfSome (slice_get (stored_shapes c) m) (λ s. length v ≡ value_size s → maps_of (write_block c m (write_over t.block.items (e.place * value_size s) v)) ≡ put_value (maps_of c) m key v)
value_put ts c m t key v e is full within at same has =
    let there = (is_at ts c m t is full within at).there in
    of_shape _ c m (stored t) there (λ many.
    subst (λ n. maps_of (write_block c n (write_over t.block.items (e.place * value_size t.shape) v)) ≡ put_value (maps_of c) n key v) same
    (ap maps_of (one_written c e (stored t) v (subst (λ n. slice_get c n ≡ Some (stored t)) (sym same) there))
    ∙ maps_written ts c e t key v is full (subst (λ n. t ≡ get_or ts n t) (sym same) at) has many))

-- The keys of one table: where one stands, where one is put, and what is taken out.
use Rattle.std.proofs.Common.{◌≡◌, ◌≢◌, ℕ, zero, suc, ◌+◌, ◌-◌, ◌*◌, ◌<◌, ◌≤◌, Bool, true, false, cond, List, [], ◌∷◌, ◌++◌, length, take, drop, Option, Some, None, refl, sym, ap, ◌∙◌, arith, subst, get_or}
use Rattle.std.specs.Prelude.{◌^◌, IfSome, IfNone, IsSome, is_some, slice_get, slice_set}
use Rattle.std.specs.List.{refill, CopiedTo, SameBelow, SameFrom}
use Rattle.std.specs.Ordering.{nat_cmp, eq_by_cmp}
use Rattle.std.specs.Cmp.Lexicographic.{slice_cmp, nat_list_cmp_total}
use Rattle.std.specs.FinMap as finite_map
use Rattle.std.specs.FinMap.{get-remove, same_map, slice_cmp-IsAntisymmetric, nat_cmp-IsAntisymmetric}
use Rattle.std.proofs.Math.Nat.{mul-le-mul, mul-le-mul_right}
use Rattle.keyindex.specs.declared.index.KeyIndex.{KeyIndex}
use Rattle.keyindex.specs.declared.index.Inserted.{Inserted}
use Rattle.keyindex.specs.Indexes.{key_of}
use Rattle.keyindex.specs.Places.{key_in, places, keys_of, filled, IsAbsent}
use Rattle.keyindex.proofs.Export.{key_is, key_length, Wrote, byte_at, key_here, key_there, many_keys, key_listed, listed_key, listed_once, not_listed}
use Rattle.maps.specs.declared.shapes.Shape.{Shape}
use Rattle.maps.specs.declared.shapes.Shape.TheVariants.{Array, Hash}
use Rattle.maps.specs.declared.table.Table.{Table}
use Rattle.maps.specs.Shapes.{IsShapeSupported, IsHash, value_size, entry_count}
use Rattle.maps.specs.Maps.{Entries, MapState, index_key}
use Rattle.maps.specs.MapSets.{Contents, placed, value_in, entries_of, maps_of, write_over, HasRoom}
use Rattle.maps.specs.Blocks.{keys_at, stored, FitsIndex, IsTable, HasRoomFor, HasFreePlace, HasClaimed}
use Rattle.maps.specs.Lent.{with_bytes}
use Rattle.maps.proofs.Keys.{key_same}
use Rattle.maps.proofs.Placed.{get_nowhere, len_placed, index_at, index_nowhere}
use Rattle.maps.proofs.KeysChanged.{distinct_once, put_placed, drop_placed}
use Rattle.maps.proofs.Stored.{IsAt, map_at, missing, distinct, sizes, room_at}
use Rattle.maps.proofs.Written.{written_at, kept_at}

same_key : (o : Option (Option (List ℕ))) (j k : List ℕ) → o ≡ Some (Some j) → o ≡ Some (Some k) → j ≡ k
same_key o j k e f = let both : Some (Some j) ≡ Some (Some k) = sym e ∙ f in cc

-- ---- an array's keys

pub index_found : (t : Table) (place : ℕ) (key : List ℕ) → t.index ≡ None → place < entry_count t.shape → key ≡ index_key place → slice_get (keys_at t.shape t.index) place ≡ Some (Some key)
index_found t place key none low e =
    ap (λ i. slice_get (keys_at t.shape i) place) none
    ∙ (index_at 0 (entry_count t.shape) place low ∙ (ap (λ n. Some (Some (index_key n))) (let z : 0 + place ≡ place = omega arith in z) ∙ ap (λ k. Some (Some k)) (sym e)))

pub index_missing : (t : Table) (place : ℕ) (key : List ℕ) → t.index ≡ None → entry_count t.shape ≤ 2147483648 → entry_count t.shape ≤ place → place < 2 ^ 32 → key ≡ index_key place
    → (p : ℕ) → slice_get (keys_at t.shape t.index) p ≢ Some (Some key)
index_missing t place key none few high small e p x =
    index_nowhere 0 (entry_count t.shape) place p (omega (arith, few)) small (λ q low is. omega (arith, low, is, high)) (sym (ap (λ i. slice_get (keys_at t.shape i) p) none) ∙ (x ∙ ap (λ k. Some (Some k)) e))

-- a table whose keys stay
pub index_claimed : (t u : Table) (place : ℕ) (key : List ℕ) → (stored u).keys ≡ (stored t).keys → slice_get (stored t).keys place ≡ Some (Some key) → HasClaimed t u key place
index_claimed t u place key same is = record {
  stands = ap (λ ks. slice_get ks place) same ∙ is;
  own = λ other e. same_key _ other key e is;
  others = λ p ne. ap (λ ks. slice_get ks p) same;
}

-- ---- a hash's keys

pub hash_found : (t : Table) (x : KeyIndex) (key : List ℕ) (o : Option ℕ) → t.index ≡ Some x → IfSome o (λ p. p < places x) → IfSome o (λ p. key_in x p ≡ Some key) → IfSome o (λ p. slice_get (keys_at t.shape t.index) p ≡ Some (Some key))
hash_found t x key None some low e = e
hash_found t x key (Some p) some low e = ap (λ i. slice_get (keys_at t.shape i) p) some ∙ (key_listed x p low ∙ ap Some e)

pub hash_missing : (t : Table) (x : KeyIndex) (key : List ℕ) → t.index ≡ Some x → IsAbsent x key → (p : ℕ) → slice_get (keys_at t.shape t.index) p ≢ Some (Some key)
hash_missing t x key some absent p e = not_listed x key absent p (sym (ap (λ i. slice_get (keys_at t.shape i) p) some) ∙ e)

pub if_missing : (t : Table) (x : KeyIndex) (key : List ℕ) (o : Option ℕ) → t.index ≡ Some x → IfNone o (IsAbsent x key) → IfNone o ((p : ℕ) → slice_get (keys_at t.shape t.index) p ≢ Some (Some key))
if_missing t x key None some absent = hash_missing t x key some absent
if_missing t x key (Some p) some absent = absent

-- ---- a place for a key

-- a map's room for a key is its table's
pub room_for : (c : Contents) (m : ℕ) (t : Table) (key : List ℕ) → IsAt c m t → HasRoom (maps_of c) m key → HasRoomFor t key
room_for c m t key at room = λ none.
    let has = subst (λ o. IfSome o (λ (s : MapState). IsHash s.shape × (finite_map.len s.entries < entry_count s.shape))) (map_at c m (stored t) at.there) (room (ap is_some (missing c m t key at none))) in
    let many = len_placed (keys_at t.shape t.index) (value_in (value_size t.shape) t.block.items) 0 (distinct t.shape t.index at.ok.entries.1) in
    (has.0, subst (λ n. n < entry_count t.shape) many has.1)

pub get_set_same : {A : Type 0} (xs : List A) (i : ℕ) (y : A) → i < length xs → slice_get (slice_set xs i y) i ≡ Some y
get_set_same [] i y h = absurd (omega arith)
get_set_same (x ∷ xs) zero y h = refl
get_set_same (x ∷ xs) (suc i) y h = get_set_same xs i y (omega arith)

pub get_set_other : {A : Type 0} (xs : List A) (i j : ℕ) (y : A) → j ≢ i → slice_get (slice_set xs i y) j ≡ slice_get xs j
get_set_other [] i j y ne = refl
get_set_other (x ∷ xs) zero zero y ne = absurd (ne refl)
get_set_other (x ∷ xs) zero (suc j) y ne = refl
get_set_other (x ∷ xs) (suc i) zero y ne = refl
get_set_other (x ∷ xs) (suc i) (suc j) y ne = get_set_other xs i j y (λ e. ne (ap suc e))

pub length_set : {A : Type 0} (xs : List A) (i : ℕ) (y : A) → length (slice_set xs i y) ≡ length xs
length_set [] i y = refl
length_set (x ∷ xs) zero y = refl
length_set (x ∷ xs) (suc i) y = ap suc (length_set xs i y)

-- what an insert says at the place that it answers
pub record IsInserted (x y : KeyIndex) (key : List ℕ) (p : ℕ) : Type 0 where
  pub place : p < places x
  pub keys : keys_of y ≡ slice_set (keys_of x) p (Some key)
  pub own : (other : List ℕ) → key_in x p ≡ Some other → other ≡ key

pub insert_place : (x y : KeyIndex) (key : List ℕ) (p : ℕ) → IsInserted x y key p → slice_get (keys_of y) p ≡ Some (Some key)
insert_place x y key p h = ap (λ ks. slice_get ks p) h.keys ∙ get_set_same (keys_of x) p (Some key) (let n = many_keys x in let low = h.place in omega (arith, n, low))

pub insert_others : (t : Table) (x y : KeyIndex) (key : List ℕ) (p : ℕ) → t.index ≡ Some x → IsInserted x y key p → (q : ℕ) → q ≢ p → slice_get (keys_of y) q ≡ slice_get (keys_at t.shape t.index) q
insert_others t x y key p some h q ne = ap (λ ks. slice_get ks q) h.keys ∙ (get_set_other (keys_of x) p q (Some key) ne ∙ sym (ap (λ i. slice_get (keys_at t.shape i) q) some))

pub insert_own : (t : Table) (x y : KeyIndex) (key : List ℕ) (p : ℕ) → t.index ≡ Some x → IsInserted x y key p → (other : List ℕ) → slice_get (keys_at t.shape t.index) p ≡ Some (Some other) → other ≡ key
insert_own t x y key p some h other e = h.own other (listed_key x p (Some other) (sym (ap (λ i. slice_get (keys_at t.shape i) p) some) ∙ e)).1

pub hash_claimed : (t u : Table) (x y : KeyIndex) (key : List ℕ) (o : Option Inserted) → t.index ≡ Some x → u.index ≡ Some y → IfSome o (λ r. r.place < places x)
    → IfSome o (λ r. keys_of y ≡ slice_set (keys_of x) r.place (Some key)) → IfSome o (λ r. (other : List ℕ) → key_in x r.place ≡ Some other → other ≡ key) → IfSome o (λ r. HasClaimed t u key r.place)
hash_claimed t u x y key None some now low keys own = tt
hash_claimed t u x y key (Some r) some now low keys own =
    let is : IsInserted x y key r.place = record { place = low; keys = keys; own = own } in
    let new : (q : ℕ) → slice_get (keys_at u.shape u.index) q ≡ slice_get (keys_of y) q = λ q. ap (λ i. slice_get (keys_at u.shape i) q) now in
    record {
      stands = new r.place ∙ insert_place x y key r.place is;
      own = insert_own t x y key r.place some is;
      others = λ q ne. new q ∙ insert_others t x y key r.place some is q ne;
    }

pub hash_was : (t : Table) (x : KeyIndex) (key : List ℕ) (o : Option Inserted) → t.index ≡ Some x → IfSome o (λ r. r.place < places x) → IfSome o (λ r. r.is_new ≡ false → key_in x r.place ≡ Some key)
    → IfSome o (λ r. r.is_new ≡ false → slice_get (keys_at t.shape t.index) r.place ≡ Some (Some key))
hash_was t x key None some low e = tt
hash_was t x key (Some r) some low e = λ old. ap (λ i. slice_get (keys_at t.shape i) r.place) some ∙ (key_listed x r.place low ∙ ap Some (e old))

pub hash_new : (t : Table) (x : KeyIndex) (key : List ℕ) (o : Option Inserted) → t.index ≡ Some x → IfSome o (λ r. r.is_new ≡ true → IsAbsent x key)
    → IfSome o (λ r. r.is_new ≡ true → (p : ℕ) → slice_get (keys_at t.shape t.index) p ≢ Some (Some key))
hash_new t x key None some absent = tt
hash_new t x key (Some r) some absent = λ new. hash_missing t x key some (absent new)

pub hash_room : (t : Table) (x : KeyIndex) (o : Option Inserted) → t.index ≡ Some x → IsTable t → IfSome o (λ r. r.is_new ≡ true → filled (keys_of x) < places x) → IfSome o (λ r. r.is_new ≡ true → HasFreePlace t)
hash_room t x None some table less = tt
hash_room t x (Some r) some table less = λ new.
    let fits = subst (FitsIndex t.shape) some table.index in
    let many = (sizes t.shape x fits).places_are in let low = less new in
    let same : filled (keys_at t.shape t.index) ≡ filled (keys_of x) = ap (λ i. filled (keys_at t.shape i)) some in
    (is_hash t.shape x fits, omega (arith, low, many, same))
  where
    is_hash : (shape : Shape) (index : KeyIndex) → FitsIndex shape (Some index) → IsHash shape
    is_hash (Array value entries) index fits = fits
    is_hash (Hash key value entries) index fits = tt

pub hash_absent : (t : Table) (x : KeyIndex) (key : List ℕ) (o : Option Inserted) → t.index ≡ Some x → IfNone o (IsAbsent x key) → IfNone o ((p : ℕ) → slice_get (keys_at t.shape t.index) p ≢ Some (Some key))
hash_absent t x key None some absent = hash_missing t x key some absent
hash_absent t x key (Some r) some absent = tt

-- a table that has room for a key has a place for it
pub has_place : (t : Table) (key : List ℕ) (o : Option Inserted) → HasRoomFor t key → IfNone o ((p : ℕ) → slice_get (keys_at t.shape t.index) p ≢ Some (Some key))
    → IfNone o (IsHash t.shape → entry_count t.shape ≤ filled (keys_at t.shape t.index)) → IsSome o
has_place t key (Some r) room absent full = refl
has_place t key None room absent full = let r = room absent in let most = full r.0 in absurd (let less = r.1 in omega (arith, less, most))

-- ---- a value put under a key

bytes_written : (t : Table) (start : ℕ) (w : List ℕ) → (with_bytes t start w).block.items ≡ write_over t.block.items start w
bytes_written t start w = ap (λ n. refill n t.block.items (take start t.block.items ++ (w ++ drop (length w) (drop start t.block.items)))) t.block.ok.0

-- table u is t with key k at a place that was its own or free
pub record IsClaimed (t u : Table) (key : List ℕ) (place : ℕ) : Type 0 where
  pub shape : u.shape ≡ t.shape
  pub block : u.block ≡ t.block
  pub table : IsTable u
  pub claimed : HasClaimed t u key place

pub claimed_at : (t u : Table) (key : List ℕ) (o : Option Inserted) (r : Inserted) → o ≡ Some r → u.shape ≡ t.shape → u.block ≡ t.block → IsTable u → IfSome o (λ i. HasClaimed t u key i.place) → IsClaimed t u key r.place
claimed_at t u key o r is shape block table all =
    record { shape = shape; block = block; table = table; claimed = subst (λ x. IfSome x (λ i. HasClaimed t u key i.place)) is all }

pub claimed_room : (t u : Table) (key : List ℕ) (place size : ℕ) → IsShapeSupported t.shape → IsClaimed t u key place → size ≡ value_size u.shape → (place * size + size ≤ length u.block.items) × (length u.block.items ≤ 35184372088832)
claimed_room t u key place size ok h width =
    subst (λ n. (place * n + n ≤ length u.block.items) × (length u.block.items ≤ 35184372088832)) (sym width) (room_at u place key (subst IsShapeSupported (sym h.shape) ok) h.table h.claimed.stands)

pub put_entries : (t u : Table) (key value : List ℕ) (place size : ℕ) → IsShapeSupported t.shape → IsClaimed t u key place → size ≡ value_size u.shape → length value ≡ value_size t.shape
    → entries_of (stored (with_bytes u (place * size) value)) ≡ finite_map.insert (entries_of (stored t)) key value
put_entries t u key value place size ok h width many =
    let ks = keys_at t.shape t.index in
    let ls = keys_at u.shape u.index in
    let s = value_size u.shape in
    let b = u.block.items in
    let okay : IsShapeSupported u.shape = subst IsShapeSupported (sym h.shape) ok in
    let fits = (room_at u place key okay h.table h.claimed.stands).0 in
    let long : length value ≡ s = many ∙ ap value_size (sym h.shape) in
    let w = value_in s (write_over b (place * s) value) in
    let put : placed ls w 0 ≡ finite_map.insert (placed ks (value_in s b) 0) key (w place) =
    put_placed ks ls (value_in s b) w place key (distinct t.shape t.index ok.entries.1) (distinct u.shape u.index okay.entries.1) h.claimed.stands
    (λ q ne e. ne (h.claimed.own q e)) h.claimed.others (λ i ne. kept_at b place s value fits long i ne) in
    ap (λ n. placed ls (value_in s (with_bytes u (place * n) value).block.items) 0) width
    ∙ (ap (λ bytes. placed ls (value_in s bytes) 0) (bytes_written u (place * s) value)
    ∙ (put
    ∙ (ap (finite_map.insert (placed ks (value_in s b) 0) key) (written_at b place s value fits long)
    ∙ (ap (λ n. finite_map.insert (placed ks (value_in n b) 0) key value) (ap value_size h.shape)
    ∙ ap (λ v. finite_map.insert (placed ks (value_in (value_size t.shape) v) 0) key value) (ap (λ v. v.items) h.block)))))

-- ---- a key taken out

-- a key that isn't there may be taken out
pub remove_nothing : (m : Entries) (key : List ℕ) → finite_map.get m key ≡ None → m ≡ finite_map.remove m key
remove_nothing m key none =
    same_map nat_list_cmp_total (slice_cmp-IsAntisymmetric nat_cmp-IsAntisymmetric) _ _ (λ q. by q (eq_by_cmp (slice_cmp nat_cmp) q key) refl ∙ sym (get-remove nat_list_cmp_total m key q))
  where
    by : (q : List ℕ) (b : Bool) → eq_by_cmp (slice_cmp nat_cmp) q key ≡ b → finite_map.get m q ≡ cond (eq_by_cmp (slice_cmp nat_cmp) q key) None (finite_map.get m q)
    by q true e = ap (finite_map.get m) (key_same q key e) ∙ (none ∙ sym (ap (λ b. cond b None (finite_map.get m q)) e))
    by q false e = sym (ap (λ b. cond b None (finite_map.get m q)) e)

pub kept_entries : (t : Table) (x y : KeyIndex) (key : List ℕ) → IsShapeSupported t.shape → t.index ≡ Some x → IsAbsent x key → keys_of y ≡ keys_of x
    → placed (keys_of y) (value_in (value_size t.shape) t.block.items) 0 ≡ finite_map.remove (entries_of (stored t)) key
kept_entries t x y key ok some absent same =
    let v = value_in (value_size t.shape) t.block.items in
    ap (λ ks. placed ks v 0) (same ∙ sym (ap (keys_at t.shape) some))
    ∙ remove_nothing (entries_of (stored t)) key (get_nowhere (keys_at t.shape t.index) v 0 key (hash_missing t x key some absent))

-- what a remove says
pub record IsTakenOut (x y : KeyIndex) (key : List ℕ) (place from : ℕ) : Type 0 where
  pub low : (place < places x) × (from < places x)
  pub was : key_in x place ≡ Some key
  pub keys : keys_of y ≡ slice_set (slice_set (keys_of x) place (key_in x from)) from None

pub taken_from : (t : Table) (x : KeyIndex) (key : List ℕ) (place : ℕ) → t.index ≡ Some x → place < places x → key_in x place ≡ Some key → slice_get (keys_at t.shape t.index) place ≡ Some (Some key)
taken_from t x key place some low was = ap (λ i. slice_get (keys_at t.shape i) place) some ∙ (key_listed x place low ∙ ap Some was)

-- the value of one place copied over that of another
pub record IsMoved (size : ℕ) (b c : List ℕ) (from place : ℕ) : Type 0 where
  pub len : length c ≡ length b
  pub copied : CopiedTo b c (from * size) (place * size) size
  pub before : SameBelow b c (place * size)
  pub after : SameFrom b c (place * size + size)

pub moved_by : (size n : ℕ) (b c : List ℕ) (from place : ℕ) → n ≡ size → length c ≡ length b → CopiedTo b c (from * size) (place * size) n × SameBelow b c (place * size) × SameFrom b c (place * size + n) → IsMoved size b c from place
moved_by size n b c from place e len all =
    let h = subst (λ m. CopiedTo b c (from * size) (place * size) m × SameBelow b c (place * size) × SameFrom b c (place * size + m)) e all in
    record { len = len; copied = h.0; before = h.1; after = h.2 }

wrote : (size : ℕ) (b c : List ℕ) (from place : ℕ) → IsMoved size b c from place → Wrote b c (place * size) size (key_of size b from)
wrote size b c from place h = record {
  len = h.len;
  inside = λ i low.
      h.copied (place * size + i) 0 (omega arith) (omega (arith, low)) ∙ (ap (λ k. get_or b k 0) (let e : from * size + (place * size + i - place * size) ≡ from * size + i = omega arith in e) ∙ sym (byte_at size b from i low));
  below = λ i low. h.before i 0 low;
  above = λ i low. h.after i 0 low;
}

pub place_room : (t : Table) (x y : KeyIndex) (key : List ℕ) (place from size : ℕ) → IsShapeSupported t.shape → IsTable t → t.index ≡ Some x → IsTakenOut x y key place from → size ≡ value_size t.shape
    → (place * size + size ≤ length t.block.items) × (from * size + size ≤ length t.block.items) × (length t.block.items ≤ 35184372088832)
place_room t x y key place from size ok table some h width =
    let s = value_size t.shape in
    let low = h.low in
    let fits = sizes t.shape x (subst (FitsIndex t.shape) some table.index) in
    let full : length t.block.items ≡ places x * s = table.full ∙ ap (λ n. n * s) (sym fits.places_are) in
    let most : (place + 1) * s ≤ places x * s = mul-le-mul_right s (omega (arith, low.0)) in
    let most_from : (from + 1) * s ≤ places x * s = mul-le-mul_right s (omega (arith, low.1)) in
    let small : entry_count t.shape * value_size t.shape ≤ 2147483648 * 16384 = mul-le-mul ok.entries.1 ok.value.1 in
    let all = table.full in
    subst (λ n. (place * n + n ≤ length t.block.items) × (from * n + n ≤ length t.block.items) × (length t.block.items ≤ 35184372088832)) (sym width)
    (omega (arith, most, full), omega (arith, most_from, full), omega (arith, small, all))

pub taken_entries : (t : Table) (x y : KeyIndex) (c : List ℕ) (key : List ℕ) (place from : ℕ) → IsShapeSupported t.shape → IsTable t → t.index ≡ Some x → IsTakenOut x y key place from → IsMoved (value_size t.shape) t.block.items c from place
    → placed (keys_of y) (value_in (value_size t.shape) c) 0 ≡ finite_map.remove (entries_of (stored t)) key
taken_entries t x y c key place from ok table some h moved =
    let s = value_size t.shape in
    let b = t.block.items in
    let ks = keys_of x in
    let ls = keys_of y in
    let many = many_keys x in
    let low = h.low in
    let fits = sizes t.shape x (subst (FitsIndex t.shape) some table.index) in
    let w = wrote s b c from place moved in
    let full : length b ≡ places x * s = table.full ∙ ap (λ n. n * s) (sym fits.places_are) in
    let within : place * s + s ≤ length b = let most : (place + 1) * s ≤ places x * s = mul-le-mul_right s (omega (arith, low.0)) in omega (arith, most, full) in
    let from_within : from * s + s ≤ length b = let most : (from + 1) * s ≤ places x * s = mul-le-mul_right s (omega (arith, low.1)) in omega (arith, most, full) in
    let set_long : length (slice_set ks place (key_in x from)) ≡ length ks = length_set ks place (key_in x from) in
    let at : slice_get ls from ≡ Some None = ap (λ l. slice_get l from) h.keys ∙ get_set_same (slice_set ks place (key_in x from)) from None (omega (arith, set_long, many, low.1)) in
    let moves : place ≢ from → slice_get ls place ≡ slice_get ks from = λ ne.
    ap (λ l. slice_get l place) h.keys
    ∙ (get_set_other (slice_set ks place (key_in x from)) from place None ne
    ∙ (get_set_same ks place (key_in x from) (omega (arith, many, low.0)) ∙ sym (key_listed x from low.1))) in
    let others : (i : ℕ) → i ≢ place → i ≢ from → slice_get ls i ≡ slice_get ks i = λ i np nf.
    ap (λ l. slice_get l i) h.keys ∙ (get_set_other (slice_set ks place (key_in x from)) from i None nf ∙ get_set_other ks place i (key_in x from) np) in
    drop_placed ks ls (value_in s b) (value_in s c) place from key (listed_once x) (distinct_once ls (listed_once y)) (key_listed x place low.0 ∙ ap Some h.was) at moves others
    (sym (key_is s c place) ∙ (key_here s place b c (key_of s b from) w (key_length s b from from_within) within ∙ key_is s b from))
    (λ i ne. sym (key_is s c i) ∙ (key_there s (places x) place i b c (key_of s b from) w full ne ∙ key_is s b i))
    ∙ ap (λ l. finite_map.remove (placed l (value_in s b) 0) key) (sym (ap (keys_at t.shape) some))

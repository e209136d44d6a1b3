-- The calls of the examples, one after another.
use Rattle.std.proofs.Common.{◌≡◌, ℕ, ◌+◌, ◌%◌, ◌<◌, get_or, Bool, true, false, cond, List, Option, Some, None, refl, ap, ◌∙◌, arith}
use Rattle.std.specs.Prelude.{is_some}
use Rattle.std.specs.Ordering.{nat_cmp}
use Rattle.std.specs.Cmp.Lexicographic.{slice_cmp, nat_list_cmp_total}
use Rattle.std.specs.FinMap as finite_map
use Rattle.std.specs.FinMap.{get-empty, get-insert, len-empty, len-insert}
use Rattle.maps.specs.declared.shapes.Shape.{Shape}
use Rattle.maps.specs.declared.shapes.Shape.TheVariants.{Array, Hash}
use Rattle.maps.specs.Maps.{Maps, MapState, Entries, IsMapState, index_key}
use Rattle.helpers.specs.Helpers.{enoent, e2big, eexist, einval, update_error, delete_error, changed_unless}
use Rattle.helpers.specs.Examples.{both, a, b, zeros, CallsAnswer}

abbrev none : Entries
none = finite_map.empty

abbrev one : Entries
one = finite_map.insert finite_map.empty a zeros

no_key : (k : List ℕ) → finite_map.contains_key none k ≡ false
no_key k = ap is_some (get-empty (slice_cmp nat_cmp) k)

no_keys : finite_map.len none ≡ 0
no_keys = len-empty (slice_cmp nat_cmp) (List ℕ)

has_a : finite_map.contains_key one a ≡ true
has_a = ap is_some (get-insert nat_list_cmp_total none a zeros a)

no_b : finite_map.contains_key one b ≡ false
no_b = ap is_some (get-insert nat_list_cmp_total none a zeros b ∙ get-empty (slice_cmp nat_cmp) b)

one_key : finite_map.len one ≡ 1
one_key = len-insert nat_list_cmp_total none a zeros ∙ ap (λ x. cond x (finite_map.len none) (finite_map.len none + 1)) (no_key a) ∙ ap (λ n. n + 1) no_keys

-- an answer, by the error that the table gives
answer : (error : Option ℕ) (maps : Maps) (m : ℕ) (s : MapState) (entries : Entries) (e : Option ℕ) → error ≡ e → Some (changed_unless error maps m s entries) ≡ Some (changed_unless e maps m s entries)
answer error maps m s entries e h = ap (λ (x : Option ℕ). Some (changed_unless x maps m s entries)) h

update_by : (shape : Shape) (present there : Bool) (keys many flags : ℕ) → present ≡ there → keys ≡ many → update_error shape present keys flags ≡ update_error shape there many flags
update_by shape present there keys many flags p q i = update_error shape (p i) (q i) flags

not_16 : (n : ℕ) → n < 16 → index_key 16 ≡ index_key n → ⊥
not_16 n h e = let first : 16 ≡ n % 256 = ap (λ xs. get_or xs 0 0) e in omega arith

-- index 16 is no key of an array of 16, index 0 is one
past_end : (array : Entries) → IsMapState (record { shape = Array 8 16; entries = array }) → finite_map.contains_key array (index_key 16) ≡ false
past_end array is = by (finite_map.contains_key array (index_key 16)) refl
  where
    by : (t : Bool) → finite_map.contains_key array (index_key 16) ≡ t → t ≡ false
    by true e = let k = is.each_key (index_key 16) e in absurd (not_16 k.0 k.1 k.2)
    by false e = refl

abbrev hash : Entries → MapState
hash entries = record { shape = Hash 4 8 1; entries = entries }

abbrev full : Entries → MapState
full entries = record { shape = Array 8 16; entries = entries }

pub answers : (array : Entries) → IsMapState (record { shape = Array 8 16; entries = array }) → CallsAnswer array
answers array is = record {
  put = answer _ (both array none) 1 (hash none) one None (update_by (Hash 4 8 1) _ false _ 0 0 (no_key a) no_keys);
  full = answer _ (both array one) 1 (hash one) (finite_map.insert one b zeros) (Some e2big) (update_by (Hash 4 8 1) _ false _ 1 0 no_b one_key);
  present = answer _ (both array one) 1 (hash one) (finite_map.insert one a zeros) (Some eexist) (update_by (Hash 4 8 1) _ true _ 1 1 has_a one_key);
  absent = answer _ (both array one) 1 (hash one) (finite_map.remove one b) (Some enoent) (ap (delete_error (Hash 4 8 1)) no_b);
  flags = answer _ (both array one) 1 (hash one) (finite_map.insert one a zeros) (Some einval) (update_by (Hash 4 8 1) _ true _ 1 3 has_a one_key);
  gone = answer _ (both array one) 1 (hash one) (finite_map.remove one a) None (ap (delete_error (Hash 4 8 1)) has_a);
  kept = refl;
  past = answer _ (both array none) 0 (full array) (finite_map.insert array (index_key 16) zeros) (Some e2big) (update_by (Array 8 16) _ false 16 16 0 (past_end array is) refl);
  there = answer _ (both array none) 0 (full array) (finite_map.insert array (index_key 0) zeros) None (update_by (Array 8 16) _ true 16 16 2 (is.count 0 (omega arith)) refl);
}

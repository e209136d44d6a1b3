-- The entries at some places of a map: each stands in it, none twice, and at all places they are as many as it has.
use Rattle.std.proofs.Common.{append-nil, ◌≡◌, ◌≢◌, ◌⊎◌, inl, inr, ⊎_elim, min, ℕ, zero, suc, ◌+◌, ◌-◌, ◌*◌, ◌<◌, ◌≤◌, false, List, [], ◌∷◌, ◌++◌, map, length, take, drop, Option, Some, None, refl, sym, ap, ap₂, ◌∙◌, arith, subst, bytes_eq, length-append, length-take, length-drop}
use Rattle.std.specs.Prelude.{slice_get, IfSome, IfNone}
use Rattle.std.specs.List.{AllByRecursion, IsDistinct, list_any}
use Rattle.std.specs.FinMap as finite_map
use Rattle.std.specs.Cmp.Lexicographic.{bytes_decides, nat_list_eq_equiv}
use Rattle.std.proofs.lemmas.Bool.{cases_Bool, or_from}
use Rattle.std.proofs.lemmas.List.Folds.{list_any-append}
use Rattle.std.proofs.lemmas.Map.Keys.{IsDistinct-push}
use Rattle.std.proofs.Math.Seq.{take-length}
use Rattle.keyindex.specs.Places.{filled}
use Rattle.maps.specs.declared.shapes.Shape.{Shape}
use Rattle.maps.specs.declared.table.Table.{Table}
use Rattle.maps.specs.Shapes.{IsShapeSupported, key_size, value_size, entry_count}
use Rattle.maps.specs.MapSets.{Stored, value_in, entries_of, map_of, flat, write_over}
use Rattle.maps.specs.Blocks.{keys_at, stored, IsTable}
use Rattle.maps.specs.Scans.{KeyValue, reach, given, Scans, standing, entry_at, entries_from, KeepsParts}
use Rattle.maps.proofs.Placed.{Distinct, get_placed, len_placed}
use Rattle.maps.proofs.Stored.{all_get, distinct, many_places}
use Rattle.maps.proofs.Written.{whole, kept_at}

-- ---- parts of a block

pub over_part : (n size : ℕ) (b y w : List ℕ) (k : ℕ) → k ≡ size → y ≡ w → length w ≡ size → n * size + size ≤ length b → take (n * size) b ++ (y ++ drop k (drop (n * size) b)) ≡ write_over b (n * size) w
over_part n size b y w k many same long fits =
    let rest = drop (length w) (drop (n * size) b) in
    let all = length-append (take (n * size) b) (w ++ rest) in
    let most = length-append w rest in
    let last = length-drop (length w) (drop (n * size) b) in
    let from = length-drop (n * size) b in
    let front = length-take (n * size) b in
    ap₂ (λ m l. take (n * size) b ++ (l ++ drop m (drop (n * size) b))) (many ∙ sym long) same
    ∙ sym (whole (length b) b (take (n * size) b ++ (w ++ rest)) refl (omega (arith, all, most, last, from, front, fits, long)))

over_long : (n size : ℕ) (b w : List ℕ) → length w ≡ size → n * size + size ≤ length b → length (write_over b (n * size) w) ≡ length b
over_long n size b w long fits =
    let rest = drop size (drop (n * size) b) in
    let all = length-append (take (n * size) b) (w ++ rest) in
    let most = length-append w rest in
    let last = length-drop size (drop (n * size) b) in
    let from = length-drop (n * size) b in
    let front = length-take (n * size) b in
    ap length (sym (over_part n size b w w size refl refl long fits)) ∙ (let e : length (take (n * size) b ++ (w ++ rest)) ≡ length b = omega (arith, all, most, last, from, front, fits, long) in e)

pub part_keeps : (n size : ℕ) (b w : List ℕ) → length w ≡ size → n * size + size ≤ length b → KeepsParts size n b (write_over b (n * size) w)
part_keeps n size b w long fits = record { len = over_long n size b w long fits; others = λ i ne. kept_at b n size w fits long i ne }

-- the same, as the code writes it
pub part_kept : (n s size k : ℕ) (b y : List ℕ) → s ≡ size → k ≡ s → length y ≡ s → n * size + size ≤ length b → KeepsParts size n b (take (n * s) b ++ (y ++ drop k (drop (n * s) b)))
part_kept n s size k b y width many long fits =
    let room : n * s + s ≤ length b = subst (λ z. n * z + z ≤ length b) (sym width) fits in
    subst (λ z. KeepsParts z n b (take (n * s) b ++ (y ++ drop k (drop (n * s) b)))) width (subst (KeepsParts s n b) (sym (over_part n s b y y k many refl long room)) (part_keeps n s b y long room))

pub mid_long : (i k : ℕ) (b : List ℕ) → i + k ≤ length b → length (take k (drop i b)) ≡ k
mid_long i k b h = let l = length-take k (drop i b) in let d = length-drop i b in omega (arith, l, d, h)

pub keeps_all : (size n : ℕ) (b : List ℕ) → KeepsParts size n b b
keeps_all size n b = record { len = refl; others = λ i ne. refl }

-- the entries before part n
pub given_kept : (shape : Shape) (m n : ℕ) (k l v w : List ℕ) → KeepsParts (key_size shape) n k l → KeepsParts (value_size shape) n v w → m ≤ n → given shape m l w ≡ given shape m k v
given_kept shape zero n k l v w ks vs h = refl
given_kept shape (suc m) n k l v w ks vs h =
    let ne : m ≢ n = λ e. omega (arith, e, h) in
    ap₂ (λ es e. es ++ e ∷ []) (given_kept shape m n k l v w ks vs (omega (arith, h))) (ap₂ (λ a b. (a, b)) (ks.others m ne) (vs.others m ne))

-- one entry more
pub given_more : (s : Stored) (n place : ℕ) (k l v w : List ℕ) → KeepsParts (key_size s.shape) n k l → KeepsParts (value_size s.shape) n v w
    → slice_get s.keys place ≡ Some (Some (value_in (key_size s.shape) l n)) → value_in (value_size s.shape) w n ≡ value_in (value_size s.shape) s.bytes place
    → given s.shape (n + 1) l w ≡ given s.shape n k v ++ entry_at s place
given_more s n place k l v w ks vs key value =
    ap (λ i. given s.shape i l w) (let e : n + 1 ≡ suc n = omega arith in e)
    ∙ ap₂ (λ es x. es ++ (value_in (key_size s.shape) l n, x) ∷ []) (given_kept s.shape n n k l v w ks vs (omega arith)) value
    ∙ ap (λ o. given s.shape n k v ++ standing (flat o) (value_in (value_size s.shape) s.bytes place)) (sym key)

-- none more
pub given_same : (s : Stored) (n place : ℕ) (k l v : List ℕ) → KeepsParts (key_size s.shape) n k l → slice_get s.keys place ≡ Some None → given s.shape n l v ≡ given s.shape n k v ++ entry_at s place
given_same s n place k l v ks free =
    given_kept s.shape n n k l v v ks (keeps_all (value_size s.shape) n v) (omega arith)
    ∙ sym (append-nil (given s.shape n k v))
    ∙ ap (λ o. given s.shape n k v ++ standing (flat o) (value_in (value_size s.shape) s.bytes place)) (sym free)

pub given_long : (shape : Shape) (n : ℕ) (k v : List ℕ) → length (given shape n k v) ≡ n
given_long shape zero k v = refl
given_long shape (suc n) k v =
    length-append (given shape n k v) ((value_in (key_size shape) k n, value_in (value_size shape) v n) ∷ [])
    ∙ ap (λ m. m + 1) (given_long shape n k v) ∙ (let e : n + 1 ≡ suc n = omega arith in e)

-- ---- the entries at places

pub keys_once : (ks : List (Option (List ℕ))) (p q : ℕ) (k : List ℕ) → Distinct ks → slice_get ks p ≡ Some (Some k) → slice_get ks q ≡ Some (Some k) → p ≡ q
keys_once [] p q k d a b = absurd cc
keys_once (None ∷ ks) zero q k d a b = absurd cc
keys_once (None ∷ ks) (suc p) zero k d a b = absurd cc
keys_once (None ∷ ks) (suc p) (suc q) k d a b = ap suc (keys_once ks p q k d a b)
keys_once (Some x ∷ ks) zero zero k d a b = refl
keys_once (Some x ∷ ks) zero (suc q) k d a b = let is : x ≡ k = cc in absurd (d.0 q (subst (λ r. slice_get ks q ≡ Some (Some r)) (sym is) b))
keys_once (Some x ∷ ks) (suc p) zero k d a b = let is : x ≡ k = cc in absurd (d.0 p (subst (λ r. slice_get ks p ≡ Some (Some r)) (sym is) a))
keys_once (Some x ∷ ks) (suc p) (suc q) k d a b = ap suc (keys_once ks p q k d.1 a b)

pub joined : {A : Type 0} (P : A → Type 0) (xs ys : List A) → AllByRecursion P xs → AllByRecursion P ys → AllByRecursion P (xs ++ ys)
joined P [] ys a b = b
joined P (x ∷ xs) ys a b = (a.0, joined P xs ys a.1 b)

mapped : (xs ys : List KeyValue) → map (λ e. e.0) (xs ++ ys) ≡ map (λ e. e.0) xs ++ map (λ e. e.0) ys
mapped [] ys = refl
mapped (x ∷ xs) ys = ap (λ u. x.0 ∷ u) (mapped xs ys)

differ : (a b : List ℕ) → a ≢ b → bytes_eq a b ≡ false
differ a b ne = ⊎_elim (λ y. absurd (ne ((bytes_decides a b).0 y))) (λ n. n) (cases_Bool (bytes_eq a b))

module _ (s : Stored) (d : Distinct s.keys) where
  abbrev value : ℕ → List ℕ
  value p = value_in (value_size s.shape) s.bytes p

  abbrev pub Stands : KeyValue → Type 0
  Stands e = finite_map.get (entries_of s) e.0 ≡ Some e.1

  one_stands : (p : ℕ) → AllByRecursion Stands (entry_at s p)
  one_stands p = by (slice_get s.keys p) refl
    where
      by : (o : Option (Option (List ℕ))) → slice_get s.keys p ≡ o → AllByRecursion Stands (standing (flat o) (value p))
      by None e = tt
      by (Some None) e = tt
      by (Some (Some k)) e = (get_placed s.keys value 0 p k d e ∙ ap (λ i. Some (value i)) (let z : 0 + p ≡ p = omega arith in z), tt)

  pub all_stand : (from n : ℕ) → AllByRecursion Stands (entries_from s from n)
  all_stand from zero = tt
  all_stand from (suc n) = joined Stands (entries_from s from n) (entry_at s (from + n)) (all_stand from n) (one_stands (from + n))

  -- a key of another place isn't among the keys of these
  other_place : (k : List ℕ) (p : ℕ) → slice_get s.keys p ≢ Some (Some k) → list_any (bytes_eq k) (map (λ e. e.0) (entry_at s p)) ≡ false
  other_place k p ne = by (slice_get s.keys p) refl
    where
      by : (o : Option (Option (List ℕ))) → slice_get s.keys p ≡ o → list_any (bytes_eq k) (map (λ e. e.0) (standing (flat o) (value p))) ≡ false
      by None e = refl
      by (Some None) e = refl
      by (Some (Some x)) e = or_from (bytes_eq k x) false (differ k x (λ is. ne (e ∙ ap (λ r. Some (Some r)) (sym is)))) refl

  other_places : (k : List ℕ) (from n : ℕ) → ((p : ℕ) → p < from + n → slice_get s.keys p ≢ Some (Some k)) → list_any (bytes_eq k) (map (λ e. e.0) (entries_from s from n)) ≡ false
  other_places k from zero h = refl
  other_places k from (suc n) h =
      ap (list_any (bytes_eq k)) (mapped (entries_from s from n) (entry_at s (from + n)))
      ∙ list_any-append (bytes_eq k) (map (λ e. e.0) (entries_from s from n)) (map (λ e. e.0) (entry_at s (from + n)))
      ∙ or_from _ _ (other_places k from n (λ p low. h p (omega (arith, low)))) (other_place k (from + n) (h (from + n) (omega arith)))

  pub all_once : (from n : ℕ) → IsDistinct bytes_eq (map (λ e. e.0) (entries_from s from n))
  unfolding IsDistinct
  all_once from zero = tt
  all_once from (suc n) = subst (IsDistinct bytes_eq) (sym (mapped (entries_from s from n) (entry_at s (from + n)))) (by (slice_get s.keys (from + n)) refl (all_once from n))
    where
      by : (o : Option (Option (List ℕ))) → slice_get s.keys (from + n) ≡ o → IsDistinct bytes_eq (map (λ e. e.0) (entries_from s from n)) → IsDistinct bytes_eq (map (λ e. e.0) (entries_from s from n) ++ map (λ e. e.0) (standing (flat o) (value (from + n))))
      by None e rest = subst (IsDistinct bytes_eq) (sym (append-nil (map (λ e. e.0) (entries_from s from n)))) rest
      by (Some None) e rest = subst (IsDistinct bytes_eq) (sym (append-nil (map (λ e. e.0) (entries_from s from n)))) rest
      by (Some (Some k)) e rest =
          IsDistinct-push nat_list_eq_equiv (map (λ e. e.0) (entries_from s from n)) k rest
          (other_places k from n (λ p low here. let same = keys_once s.keys p (from + n) k d here e in omega (arith, same, low)))

-- ---- how many

one_at_most : (o : Option (List ℕ)) (v : List ℕ) → length (standing o v) ≤ 1
one_at_most None v = omega arith
one_at_most (Some k) v = omega arith

pub few_entries : (s : Stored) (from n : ℕ) → length (entries_from s from n) ≤ n
few_entries s from zero = omega arith
few_entries s from (suc n) =
    let all = length-append (entries_from s from n) (entry_at s (from + n)) in
    let rest = few_entries s from n in
    let one = one_at_most (flat (slice_get s.keys (from + n))) (value_in (value_size s.shape) s.bytes (from + n)) in
    omega (arith, all, rest, one)

filled_more : (ks : List (Option (List ℕ))) (n : ℕ) (v : List ℕ) → n < length ks → filled (take (suc n) ks) ≡ filled (take n ks) + length (standing (flat (slice_get ks n)) v)
filled_more [] n v h = absurd (omega (arith, h))
filled_more (None ∷ ks) zero v h = refl
filled_more (Some k ∷ ks) zero v h = refl
filled_more (None ∷ ks) (suc n) v h = filled_more ks n v (omega (arith, h))
filled_more (Some k ∷ ks) (suc n) v h = let rest = filled_more ks n v (omega (arith, h)) in omega (arith, rest)

filled_places : (s : Stored) (n : ℕ) → n ≤ length s.keys → length (entries_from s 0 n) ≡ filled (take n s.keys)
filled_places s zero h = refl
filled_places s (suc n) h =
    let z : 0 + n ≡ n = omega arith in
    length-append (entries_from s 0 n) (entry_at s (0 + n))
    ∙ ap₂ (λ a p. a + length (entry_at s p)) (filled_places s n (omega (arith, h))) z
    ∙ sym (filled_more s.keys n (value_in (value_size s.shape) s.bytes n) (omega (arith, h)))

pub all_places : (s : Stored) → Distinct s.keys → length (entries_from s 0 (length s.keys)) ≡ finite_map.len (entries_of s)
all_places s d =
    filled_places s (length s.keys) (omega arith)
    ∙ ap filled (take-length s.keys)
    ∙ sym (len_placed s.keys (value_in (value_size s.shape) s.bytes) 0 d)

-- ---- a scan

-- so many entries were given, and it ended at this place
pub record IsScanned (t : Table) (from room end count place : ℕ) (entries : List KeyValue) : Type 0 where
  pub ok : IsShapeSupported t.shape
  pub table : IsTable t
  pub began : from < entry_count t.shape
  pub told : entries ≡ entries_from (stored t) from (place - from)
  pub many : length entries ≡ count
  pub few : count ≤ room
  pub ended : (from ≤ place) × (place ≤ end)
  pub stop : (count ≡ room) ⊎ (place ≡ end)
  pub last : end ≡ min (from + reach room) (entry_count t.shape)

-- the place to go on from, if there is one behind
pub record IsNext (t : Table) (place : ℕ) (next : Option ℕ) : Type 0 where
  pub on : IfSome next (λ p. (p ≡ place) × (p < entry_count t.shape))
  pub done : IfNone next (entry_count t.shape ≤ place)

pub scans : (t : Table) (from room end count place : ℕ) (entries : List KeyValue) (next : Option ℕ) → IsScanned t from room end count place entries → IsNext t place next → Scans (map_of (stored t)) from room entries next
scans t from room end count place entries next h n = record {
  stand = λ i e at. all_get (Stands s d) (entries_from s from (place - from)) i e (all_stand s d from (place - from)) (subst (λ es. slice_get es i ≡ Some e) h.told at);
  once = subst (λ es. IsDistinct bytes_eq (map (λ e. e.0) es)) (sym h.told) (all_once s d from (place - from));
  few = let c = h.many in let f = h.few in omega (arith, c, f);
  whole = λ began none.
      let past = subst (λ o. IfNone o (entry_count t.shape ≤ place)) none n.done in
      let low = h.ended.1 in
      let most = h.last in
      let at : place - from ≡ length s.keys = omega (arith, past, low, most, many, began) in
      ap length h.told ∙ ap₂ (λ f p. length (entries_from s f p)) began at ∙ all_places s d;
  ends = λ wide. by_ends wide next refl;
  goes_on = by_next next refl;
  moves = λ some. by_moves some next refl;
}
  where
    s : Stored
    s = stored t

    d : Distinct (keys_at t.shape t.index)
    d = distinct t.shape t.index h.ok.entries.1

    many : length (keys_at t.shape t.index) ≡ entry_count t.shape
    many = many_places t.shape t.index h.table.index

    seen : count ≤ place - from
    seen = let f = few_entries s from (place - from) in let g : length entries ≡ length (entries_from s from (place - from)) = ap length h.told in let c = h.many in omega (arith, f, g, c)

    by_ends : entry_count t.shape ≤ from + room → (o : Option ℕ) → next ≡ o → next ≡ None
    by_ends wide None e = e
    by_ends wide (Some p) e =
        let at = subst (λ o. IfSome o (λ p. (p ≡ place) × (p < entry_count t.shape))) e n.on in
        let low = h.ended.0 in
        let most = h.last in
        absurd (⊎_elim
        (λ full. omega (arith, full, seen, wide, at.0, at.1, low))
        (λ far. omega (arith, far, most, wide, at.0, at.1))
        h.stop)

    by_next : (o : Option ℕ) → next ≡ o → IfSome o (λ p. (from ≤ p) × (p < entry_count t.shape) × (p ≤ from + reach room) × ((length entries ≡ room) ⊎ (p ≡ from + reach room)))
    by_next None e = tt
    by_next (Some p) e =
        let at = subst (λ o. IfSome o (λ p. (p ≡ place) × (p < entry_count t.shape))) e n.on in
        let low = h.ended in
        let most = h.last in
        let c = h.many in (
          omega (arith, at.0, low.0),
          at.1,
          omega (arith, at.0, low.1, most),
          ⊎_elim (λ full. inl (omega (arith, full, c))) (λ far. inr (omega (arith, far, most, at.0, at.1))) h.stop,
        )

    by_moves : 1 ≤ room → (o : Option ℕ) → next ≡ o → IfSome o (λ p. from < p)
    by_moves some None e = tt
    by_moves some (Some p) e =
        let at = subst (λ o. IfSome o (λ p. (p ≡ place) × (p < entry_count t.shape))) e n.on in
        let most = h.last in
        let low = h.began in
        ⊎_elim (λ full. omega (arith, full, seen, some, at.0)) (λ far. omega (arith, far, most, at.0, low)) h.stop

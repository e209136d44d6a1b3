-- Pages of a map: what one scan gives, and what several give that follow one another.
use Rattle.std.proofs.Common.{append-nil, append_assoc, ◌≡◌, ℕ, zero, suc, ◌+◌, ◌-◌, ◌<◌, ◌≤◌, ⊎_elim, List, [], ◌∷◌, ◌++◌, map, length, Option, Some, None, refl, sym, ap, ◌∙◌, arith, subst, bytes_eq}
use Rattle.std.specs.Prelude.{slice_get, IfSome, IfNone}
use Rattle.std.specs.List.{IsDistinct, flat_map}
use Rattle.std.proofs.lemmas.Bool.{cases_eq}
use Rattle.std.proofs.lemmas.Option.{slice_get_within}
use Rattle.keyindex.specs.declared.index.KeyIndex.{KeyIndex}
use Rattle.maps.specs.declared.shapes.Shape.{Shape}
use Rattle.maps.specs.declared.shapes.Shape.TheVariants.{Array, Hash}
use Rattle.maps.specs.declared.table.Table.{Table}
use Rattle.maps.specs.Shapes.{IsShapeSupported, entry_count, value_size}
use Rattle.maps.specs.MapSets.{Stored, flat, map_of, value_in}
use Rattle.maps.specs.Blocks.{FitsIndex, IsTable, keys_at, stored}
use Rattle.maps.specs.Scans.{ArePages, GivesAll, HasIndices, IsPage, KeyValue, Page, PagesGiveAll, PagesJoin, entries_from, entry_at, page_end, standing}
use Rattle.maps.proofs.Placed.{Distinct, found_at}
use Rattle.maps.proofs.KeysChanged.{distinct_once}
use Rattle.maps.proofs.Stored.{all_get, distinct, many_places}
use Rattle.maps.proofs.EntriesAt.{IsNext, Stands, all_once, all_stand, keys_once}

-- ---- one page

has_indices : (shape : Shape) (index : Option KeyIndex) → FitsIndex shape index → HasIndices shape (keys_at shape index)
has_indices (Array value entries) None fits = refl
has_indices (Array value entries) (Some index) fits = absurd fits
has_indices (Hash key value entries) index fits = tt

-- the entries up to a place are a page, where a scan goes on at that place, if there is one behind
pub is_page : (t : Table) (from place : ℕ) (entries : List KeyValue) (next : Option ℕ) → IsShapeSupported t.shape → IsTable t → (from ≤ place) × (place ≤ entry_count t.shape)
    → entries ≡ entries_from (stored t) from (place - from) → IsNext t place next → IsPage (stored t) from entries next
is_page t from place entries next ok table low told n =
    let at = ends_at next refl in record {
      places = record { places = many; apart = λ p q key a b. keys_once (keys_at t.shape t.index) p q key (distinct t.shape t.index ok.entries.1) a b; indices = has_indices t.shape t.index table.index };
      forward = omega (arith, at, low.0);
      all = told ∙ ap (λ end. entries_from (stored t) from (end - from)) (sym at);
    }
  where
    many : length (keys_at t.shape t.index) ≡ entry_count t.shape
    many = many_places t.shape t.index table.index

    ends_at : (o : Option ℕ) → next ≡ o → page_end (stored t) next ≡ place
    ends_at None e =
        let past = subst (λ o. IfNone o (entry_count t.shape ≤ place)) e n.done in
        ap (page_end (stored t)) e ∙ omega (arith, past, low.1, many)
    ends_at (Some p) e = ap (page_end (stored t)) e ∙ (subst (λ o. IfSome o (λ p. (p ≡ place) × (p < entry_count t.shape))) e n.on).0

-- ---- two pages

entries_split : (s : Stored) (from m n : ℕ) → entries_from s from (m + n) ≡ entries_from s from m ++ entries_from s (from + m) n
entries_split s from m zero = ap (entries_from s from) (let e : m + 0 ≡ m = omega arith in e) ∙ sym (append-nil (entries_from s from m))
entries_split s from m (suc n) =
    ap (entries_from s from) (let e : m + suc n ≡ suc (m + n) = omega arith in e)
    ∙ ap (λ es. es ++ entry_at s (from + (m + n))) (entries_split s from m n)
    ∙ append_assoc (entries_from s from m) (entries_from s (from + m) n) (entry_at s (from + (m + n)))
    ∙ ap (λ p. entries_from s from m ++ (entries_from s (from + m) n ++ entry_at s p)) (let e : from + (m + n) ≡ from + m + n = omega arith in e)

pub pages_join : PagesJoin
pages_join s from place entries more next a b =
    let end = page_end s next in
    let low = a.forward in
    let high : place ≤ end = b.forward in
    let far : from + (place - from) ≡ place = omega (arith, low) in
    let long : place - from + (end - place) ≡ end - from = omega (arith, low, high) in record {
      places = a.places;
      forward = omega (arith, low, high);
      all =
          ap (λ es. es ++ more) a.all ∙ ap (λ es. entries_from s from (place - from) ++ es) (b.all ∙ ap (λ p. entries_from s p (end - place)) (sym far))
          ∙ sym (entries_split s from (place - from) (end - place)) ∙ ap (entries_from s from) long;
    }

-- ---- all pages

pub in_front : {A : Type 0} (xs ys : List A) (i : ℕ) (x : A) → slice_get xs i ≡ Some x → slice_get (xs ++ ys) i ≡ Some x
in_front [] ys i x e = absurd cc
in_front (z ∷ xs) ys zero x e = e
in_front (z ∷ xs) ys (suc i) x e = in_front xs ys i x e

pub at_end : {A : Type 0} (xs : List A) (x : A) → slice_get (xs ++ x ∷ []) (length xs) ≡ Some x
at_end [] x = refl
at_end (z ∷ xs) x = at_end xs x

among : (s : Stored) (from n p : ℕ) (key : List ℕ) → p < n → slice_get s.keys (from + p) ≡ Some (Some key)
    → (i : ℕ) × (slice_get (entries_from s from n) i ≡ Some (key, value_in (value_size s.shape) s.bytes (from + p)))
among s from zero p key h e = absurd (omega (arith, h))
among s from (suc n) p key h e = ⊎_elim last (λ ne. earlier (among s from n p key (omega (arith, h, ne)) e)) (cases_eq p n)
  where
    entry : KeyValue
    entry = (key, value_in (value_size s.shape) s.bytes (from + p))

    earlier : (i : ℕ) × (slice_get (entries_from s from n) i ≡ Some entry) → (i : ℕ) × (slice_get (entries_from s from (suc n)) i ≡ Some entry)
    earlier found = (found.0, in_front (entries_from s from n) (entry_at s (from + n)) found.0 entry found.1)

    last : p ≡ n → (i : ℕ) × (slice_get (entries_from s from (suc n)) i ≡ Some entry)
    last is = (
      length (entries_from s from n),
      ap (λ q. slice_get (entries_from s from n ++ entry_at s (from + q)) (length (entries_from s from n))) (sym is)
          ∙ ap (λ o. slice_get (entries_from s from n ++ standing (flat o) entry.1) (length (entries_from s from n))) e ∙ at_end (entries_from s from n) entry,
    )

pub one_page_gives_all : (s : Stored) (entries : List KeyValue) → IsPage s 0 entries None → GivesAll (map_of s) entries
one_page_gives_all s entries h = record {
  stand = λ i e at. all_get (Stands s d) (entries_from s 0 (length s.keys - 0)) i e (all_stand s d 0 (length s.keys - 0)) (subst (λ es. slice_get es i ≡ Some e) h.all at);
  each = λ key value is.
      let at = found_at s.keys (value_in (value_size s.shape) s.bytes) 0 key value is in
      let front : 0 + at.0 ≡ at.0 = omega arith in
      let low : at.0 < length s.keys - 0 = (let l = slice_get_within s.keys at.0 (Some key) at.1 in omega (arith, l)) in
      let found = among s 0 (length s.keys - 0) at.0 key low (ap (slice_get s.keys) front ∙ at.1) in
      (found.0, ap (λ es. slice_get es found.0) h.all ∙ (found.1 ∙ ap (λ v. Some (key, v)) (sym at.2)));
  once = subst (λ es. IsDistinct bytes_eq (map (λ e. e.0) es)) (sym h.all) (all_once s d 0 (length s.keys - 0));
}
  where
    d : Distinct s.keys
    d = distinct_once s.keys h.places.apart

last_page : (s : Stored) (from : ℕ) (entries : List KeyValue) (pages : List Page) → IsPage s from entries None → ArePages s None pages → IsPage s from (entries ++ flat_map (λ page. page.entries) pages) None
last_page s from entries [] h rest = subst (λ es. IsPage s from es None) (sym (append-nil entries)) h
last_page s from entries (page ∷ pages) h rest = absurd rest

one_page : (s : Stored) (from : ℕ) (pages : List Page) → ArePages s (Some from) pages → IsPage s from (flat_map (λ page. page.entries) pages) None
one_page s from [] h = absurd h
one_page s from (page ∷ pages) h = by page.next (h.0) h.1 (λ q rest. one_page s q pages rest)
  where
    by : (o : Option ℕ) → IsPage s from page.entries o → ArePages s o pages → ((q : ℕ) → ArePages s (Some q) pages → IsPage s q (flat_map (λ page. page.entries) pages) None)
        → IsPage s from (page.entries ++ flat_map (λ page. page.entries) pages) None
    by None first rest more = last_page s from page.entries pages first rest
    by (Some q) first rest more = pages_join s from q page.entries (flat_map (λ page. page.entries) pages) None first (more q rest)

pub pages_give_all : PagesGiveAll
pages_give_all s pages h = one_page_gives_all s (flat_map (λ page. page.entries) pages) (one_page s 0 pages h)

-- What is offered is loaded, line after line.
use Rattle.maps.specs.declared.shapes.MapLimits.{MapLimits}
use Rattle.std.proofs.Common.{◌≡◌, ℕ, ◌+◌, ◌<◌, ◌≤◌, true, false, eqb, ltb, leb, List, [], ◌∷◌, ◌++◌, length, map, bytes_eq, Some, Ok, refl, sym, ap, ap₂, subst, ◌∙◌, arith, append_assoc, sum_by}
use Rattle.std.specs.Prelude.{filter}
use Rattle.std.specs.List.{AllByRecursion, IsDistinct, list_any}
use Rattle.std.proofs.lemmas.Bool.{lt-ltb, le-ltb, le-leb, leb-true, and_parts, and_from, ne_eqb}
use Rattle.std.proofs.lemmas.List.{map-append, append-nil, length-append}
use Rattle.std.proofs.lemmas.List.Sums.{sum_by-append}
use Rattle.maps.specs.declared.shapes.Shape.{Shape}
use Rattle.maps.specs.declared.shapes.TheConstants.{MAX_MAPS}
use Rattle.maps.specs.Shapes.{room_of}
use Rattle.loader.specs.Grammar.{ProgramLine, Meaning, Comment, Map, Program, line_meaning}
use Rattle.loader.specs.CatalogueView.{Entry, CatalogueView, names_of}
use Rattle.loader.specs.ProgramFiles.{Files, entry_for}
use Rattle.loader.specs.Loading.{are_few, is_taken, with_map, with_entry, with_program, after_meaning, after_line, nothing_yet}
use Rattle.loader.specs.Offers.{says_something, Offers}
use Rattle.loader.specs.declared.loading.TheConstants.{MAX_PROGRAMS}
use Rattle.loader.proofs.Entries.{entry_from, entries_to}
use Rattle.loader.proofs.Passed.{Passes}

fewer : (lim : MapLimits) (xs ys : List Shape) → are_few lim (xs ++ ys) ≡ true → are_few lim xs ≡ true
fewer lim xs ys few =
    let both = and_parts (leb (length (xs ++ ys)) MAX_MAPS) (leb (sum_by room_of (xs ++ ys)) lim.bytes) few in
    let count : length xs ≤ MAX_MAPS = omega (arith, leb-true _ _ both.0, length-append xs ys) in
    let room : sum_by room_of xs ≤ lim.bytes = omega (arith, leb-true _ _ both.1, sum_by-append room_of xs ys) in
    and_from (leb (length xs) MAX_MAPS) (leb (sum_by room_of xs) lim.bytes) (le-leb _ _ count) (le-leb _ _ room)

-- of distinct names none stands before another that equals it
front_all : {X : Type 0} (P : X → Type 0) (xs : List X) (y : X) (ys : List X) → AllByRecursion P (xs ++ y ∷ ys) → P y
front_all P [] y ys h = h.0
front_all P (x ∷ xs) y ys h = front_all P xs y ys h.1

pub apart : (xs : List (List ℕ)) (y : List ℕ) (ys : List (List ℕ)) → IsDistinct bytes_eq (xs ++ y ∷ ys) → list_any (λ n. bytes_eq n y) xs ≡ false
unfolding IsDistinct
apart [] y ys h = refl
apart (x ∷ xs) y ys h = rw (front_all (λ n. bytes_eq x n ≡ false) xs y ys h.0, apart xs y ys h.1) refl

map_step : (lim : MapLimits) (v : CatalogueView) (s : Shape) → v.programs ≡ [] → are_few lim (v.shapes ++ s ∷ []) ≡ true → with_map lim v s ≡ Ok (record v { shapes = v.shapes ++ s ∷ [] })
unfolding with_map
map_step lim v s none few =
    let off : ltb 0 (length v.programs) ≡ false = le-ltb 0 (length v.programs) (omega (arith, ap length none)) in
    rw (off, few) refl

program_step : (fs : Files) (v : CatalogueView) (p : ProgramLine) (e : Entry) → entry_for fs v.shapes p ≡ Ok e → 0 < length v.shapes → is_taken v.programs p.name ≡ false → length v.programs < MAX_PROGRAMS
    → with_program fs v p ≡ Ok (record v { programs = v.programs ++ e ∷ [] })
unfolding with_program with_entry
program_step fs v p e read some new few =
    let on : eqb (length v.shapes) 0 ≡ false = ne_eqb _ _ (λ z. absurd (omega (arith, z, some))) in
    rw (on, new, read, lt-ltb _ _ few) refl

-- the limits of a catalogue
pub record IsBounded (lim : MapLimits) (c : CatalogueView) : Type 0 where
  pub few_maps : are_few lim c.shapes ≡ true
  pub distinct : IsDistinct bytes_eq (names_of c.programs)
  pub few : length c.programs ≤ MAX_PROGRAMS

-- what is left to add, with a list of programs that is not empty only where there are maps
pub record Left (lim : MapLimits) (fs : Files) (v c : CatalogueView) (ms : List Meaning) (maps : List Shape) (ps : List ProgramLine) (es : List Entry) : Type 0 where
  pub in_order : filter says_something ms ≡ map Map maps ++ map Program ps
  pub checked : map (entry_for fs c.shapes) ps ≡ map Ok es
  pub shapes : c.shapes ≡ v.shapes ++ maps
  pub all : c.programs ≡ v.programs ++ es
  pub maps_first : 0 < length v.programs → maps ≡ []
  pub some_map : 0 < length ps → 0 < length c.shapes
  pub places : v.places ≡ c.places
  pub long : v.long ≡ c.long
  pub opening : v.opening ≡ c.opening

pub done : (lim : MapLimits) (fs : Files) (v c : CatalogueView) (maps : List Shape) (ps : List ProgramLine) (es : List Entry) → Left lim fs v c [] maps ps es → v ≡ c
done lim fs v c (s ∷ ss) ps es k = absurd (let e = k.in_order in cc)
done lim fs v c [] (p ∷ ps) es k = absurd (let e = k.in_order in cc)
done lim fs v c [] [] (x ∷ es) k = absurd (let e = k.checked in cc)
done lim fs v c [] [] [] k =
    ap₂ (λ a b. record { shapes = a; programs = b; places = v.places; long = v.long; opening = v.opening }) (sym (k.shapes ∙ append-nil v.shapes)) (sym (k.all ∙ append-nil v.programs))
    ∙ ap₂ (λ p n. record c { places = p; long = n; opening = v.opening }) k.places k.long
    ∙ ap (λ o. record c { opening = o }) k.opening

-- a line's step, and what is then left
pub record Steps (lim : MapLimits) (fs : Files) (v c : CatalogueView) (m : Meaning) (ms : List Meaning) : Type 0 where
  pub next : CatalogueView
  pub step : after_meaning lim fs v (Some m) ≡ Ok next
  pub maps : List Shape
  pub programs : List ProgramLine
  pub entries : List Entry
  pub left : Left lim fs next c ms maps programs entries

not_nil : {X : Type 0} (x : X) (xs : List X) → x ∷ xs ≡ [] → ⊥
not_nil x xs e = absurd cc

empty_unless : {X Y : Type 0} (ps : List X) (s : Y) (ss : List Y) → (0 < length ps → s ∷ ss ≡ []) → ps ≡ []
empty_unless [] s ss h = refl
empty_unless (p ∷ ps) s ss h = absurd (not_nil s ss (h (omega arith)))

no_programs : (v : CatalogueView) (s : Shape) (ss : List Shape) → (0 < length v.programs → s ∷ ss ≡ []) → v.programs ≡ []
no_programs v s ss h = empty_unless v.programs s ss h

map_next : (lim : MapLimits) (fs : Files) (v c : CatalogueView) (s t : Shape) (ms : List Meaning) (ss : List Shape) (ps : List ProgramLine) (es : List Entry) → IsBounded lim c → Left lim fs v c (Map s ∷ ms) (t ∷ ss) ps es → Steps lim fs v c (Map s) ms
map_next lim fs v c s t ms ss ps es b k =
    let order : Map s ∷ filter says_something ms ≡ Map t ∷ (map Map ss ++ map Program ps) = k.in_order in
    let same : s ≡ t = cc in
    let rest : filter says_something ms ≡ map Map ss ++ map Program ps = cc in
    let none = no_programs v t ss k.maps_first in
    let shapes : c.shapes ≡ (v.shapes ++ s ∷ []) ++ ss = k.shapes ∙ ap (λ x. v.shapes ++ x ∷ ss) (sym same) ∙ sym (append_assoc v.shapes (s ∷ []) ss) in
    let few : are_few lim (v.shapes ++ s ∷ []) ≡ true = fewer lim (v.shapes ++ s ∷ []) ss (subst (λ x. are_few lim x ≡ true) shapes b.few_maps) in
    record {
      next = record v { shapes = v.shapes ++ s ∷ [] };
      step = map_step lim v s none few;
      maps = ss;
      programs = ps;
      entries = es;
      left =
          record {
            in_order = rest;
            checked = k.checked;
            shapes = shapes;
            all = k.all;
            maps_first = λ lt. absurd (omega (arith, lt, ap length none));
            some_map = k.some_map;
            places = k.places;
            long = k.long;
            opening = k.opening;
          };
    }

program_next : (lim : MapLimits) (fs : Files) (v c : CatalogueView) (p q : ProgramLine) (e : Entry) (ms : List Meaning) (ps : List ProgramLine) (es : List Entry) → IsBounded lim c → Left lim fs v c (Program p ∷ ms) [] (q ∷ ps) (e ∷ es) → Steps lim fs v c (Program p) ms
program_next lim fs v c p q e ms ps es b k =
    let order : Program p ∷ filter says_something ms ≡ Program q ∷ map Program ps = k.in_order in
    let same : p ≡ q = cc in
    let rest : filter says_something ms ≡ map Program ps = cc in
    let checked : entry_for fs c.shapes q ∷ map (entry_for fs c.shapes) ps ≡ Ok e ∷ map Ok es = k.checked in
    let first : entry_for fs c.shapes q ≡ Ok e = cc in
    let others : map (entry_for fs c.shapes) ps ≡ map Ok es = cc in
    let shapes : c.shapes ≡ v.shapes = k.shapes ∙ append-nil v.shapes in
    let read : entry_for fs v.shapes p ≡ Ok e = ap₂ (λ x y. entry_for fs x y) (sym shapes) same ∙ first in
    let all : c.programs ≡ (v.programs ++ e ∷ []) ++ es = k.all ∙ sym (append_assoc v.programs (e ∷ []) es) in
    let names : names_of c.programs ≡ names_of v.programs ++ e.name ∷ names_of es = ap names_of k.all ∙ map-append (λ x. x.name) v.programs (e ∷ es) in
    let new : list_any (λ n. bytes_eq n e.name) (names_of v.programs) ≡ false = apart (names_of v.programs) e.name (names_of es) (subst (IsDistinct bytes_eq) names b.distinct) in
    let named : e.name ≡ p.name = (entry_from fs v.shapes p e read).name in
    let some : 0 < length v.shapes = subst (λ x. 0 < length x) shapes (k.some_map (omega arith)) in
    let count : length c.programs ≡ length v.programs + length (e ∷ es) = ap length k.all ∙ length-append v.programs (e ∷ es) in
    record {
      next = record v { programs = v.programs ++ e ∷ [] };
      step = program_step fs v p e read some (subst (λ n. list_any (λ m. bytes_eq m n) (names_of v.programs) ≡ false) named new) (omega (arith, count, b.few));
      maps = [];
      programs = ps;
      entries = es;
      left =
          record {
            in_order = rest;
            checked = others;
            shapes = shapes ∙ sym (append-nil v.shapes);
            all = all;
            maps_first = λ _. refl;
            some_map = λ _. subst (λ x. 0 < length x) (sym shapes) some;
            places = k.places;
            long = k.long;
            opening = k.opening;
          };
    }

pub next : (lim : MapLimits) (fs : Files) (v c : CatalogueView) (m : Meaning) (ms : List Meaning) (maps : List Shape) (ps : List ProgramLine) (es : List Entry) → IsBounded lim c → Left lim fs v c (m ∷ ms) maps ps es → Steps lim fs v c m ms
next lim fs v c Comment ms maps ps es b k =
    record {
      next = v;
      step = refl;
      maps = maps;
      programs = ps;
      entries = es;
      left =
          record {
            in_order = k.in_order;
            checked = k.checked;
            shapes = k.shapes;
            all = k.all;
            maps_first = k.maps_first;
            some_map = k.some_map;
            places = k.places;
            long = k.long;
            opening = k.opening;
          };
    }
next lim fs v c (Map s) ms [] [] es b k = absurd (let e = k.in_order in cc)
next lim fs v c (Map s) ms [] (p ∷ ps) es b k = absurd (let e = k.in_order in cc)
next lim fs v c (Map s) ms (t ∷ ss) ps es b k = map_next lim fs v c s t ms ss ps es b k
next lim fs v c (Program p) ms (s ∷ ss) ps es b k = absurd (let e = k.in_order in cc)
next lim fs v c (Program p) ms [] [] es b k = absurd (let e = k.in_order in cc)
next lim fs v c (Program p) ms [] (q ∷ ps) [] b k = absurd (let e = k.checked in cc)
next lim fs v c (Program p) ms [] (q ∷ ps) (e ∷ es) b k = program_next lim fs v c p q e ms ps es b k

taken : (lim : MapLimits) (fs : Files) (v w : CatalogueView) (l : List ℕ) (m : Meaning) → line_meaning lim l ≡ Some m → after_meaning lim fs v (Some m) ≡ Ok w → after_line lim fs v l ≡ Ok w
unfolding after_line
taken lim fs v w l m is step = ap (after_meaning lim fs v) is ∙ step

passes : (lim : MapLimits) (fs : Files) (ls : List (List ℕ)) (ms : List Meaning) (v c : CatalogueView) (maps : List Shape) (ps : List ProgramLine) (es : List Entry) → map (line_meaning lim) ls ≡ map Some ms → IsBounded lim c → Left lim fs v c ms maps ps es → Passes lim fs ls v c
passes lim fs [] [] v c maps ps es each b k = done lim fs v c maps ps es k
passes lim fs [] (m ∷ ms) v c maps ps es each b k = absurd cc
passes lim fs (l ∷ ls) [] v c maps ps es each b k = absurd cc
passes lim fs (l ∷ ls) (m ∷ ms) v c maps ps es each b k =
    let is : line_meaning lim l ≡ Some m = cc in
    let rest : map (line_meaning lim) ls ≡ map Some ms = cc in
    let s = next lim fs v c m ms maps ps es b k in
    (s.next, taken lim fs v s.next l m is s.step, passes lim fs ls ms s.next c s.maps s.programs s.entries rest b s.left)

-- what is offered passes
pub offers_to : (lim : MapLimits) (fs : Files) (ls : List (List ℕ)) (c : CatalogueView) → Offers lim fs ls c → Passes lim fs ls nothing_yet c
offers_to lim fs ls c o =
    let b : IsBounded lim c = record { few_maps = o.few_maps; distinct = o.distinct; few = o.few_programs } in
    let left : Left lim fs nothing_yet c o.meanings c.shapes o.programs c.programs =
    record {
      in_order = o.in_order;
      checked = entries_to fs c.shapes o.programs c.programs o.checked;
      shapes = refl;
      all = refl;
      maps_first = λ lt. absurd (omega (arith, lt));
      some_map = o.some_map;
      places = sym o.no_places;
      long = sym o.no_long;
      opening = sym o.no_opening;
    } in
    passes lim fs ls o.meanings nothing_yet c c.shapes o.programs c.programs o.each b left

-- What is kept from line to line.
use Rattle.maps.specs.declared.shapes.MapLimits.{MapLimits}
use Rattle.std.proofs.Common.{◌≡◌, ℕ, ◌<◌, ◌≤◌, Bool, true, false, cond, eqb, ltb, ◌||◌, List, [], ◌∷◌, ◌++◌, length, bytes_eq, Option, Some, None, Result, Ok, Err, refl, sym, ap, subst, arith}
use Rattle.std.specs.Prelude.{IfSome}
use Rattle.std.specs.List.{IsDistinct, list_any}
use Rattle.std.proofs.lemmas.Bool.{le-leb, ltb-true, ltb-false, eqb-false, or_parts}
use Rattle.std.proofs.lemmas.List.{length_push, map-append, nil_from_length}
use Rattle.loader.specs.declared.refusals.LoadFault.{LoadFault}
use Rattle.loader.specs.declared.refusals.LoadFault.TheVariants as faults
use Rattle.maps.specs.declared.shapes.Shape.{Shape}
use Rattle.maps.specs.declared.shapes.TheConstants.{MOST_ARG_LEN}
use Rattle.verifier.specs.Accepted.{IsAccepted}
use Rattle.loader.specs.Grammar.{ProgramLine, Meaning, Comment, Map, Program, line_meaning}
use Rattle.maps.specs.Shapes.{IsShapeWithin, AreShapesSupported, AreLimits}
use Rattle.std.proofs.lemmas.List.Elements.{All-push, All-nil}
use Rattle.loader.specs.CatalogueView.{Entry, CatalogueView, IsCatalogue, AreAccepted, AreFor, names_of, sizes_for}
use Rattle.loader.specs.StoreState.{IsState}
use Rattle.loader.specs.ProgramFiles.{Files, entry_for}
use Rattle.loader.specs.declared.loading.TheConstants.{MAX_PROGRAMS}
use Rattle.loader.proofs.Entries.{steps, entry_from, entry_accepted}
use Rattle.loader.specs.Loading.{are_few, is_taken, with_map, with_entry, with_program, after_meaning, after_line}
use Rattle.loader.specs.PartialView.{IsPartial}
use Rattle.loader.specs.Spelling.{Spells}
use Rattle.maps.specs.declared.shapes.Shape.TheVariants.{Array, Hash}
use Rattle.loader.proofs.Spelled.{spelled}
use Rattle.loader.proofs.ShapesFit.{all_push, shapes_are_ok}

unless : {A : Type 0} (t : Bool) (why : LoadFault) (r : Result A LoadFault) (a : A) → cond t (Err why) r ≡ Ok a → (t ≡ false) × (r ≡ Ok a)
unless true why r a e = absurd cc
unless false why r a e = (refl, e)

where_true : {A : Type 0} (t : Bool) (why : LoadFault) (x a : A) → cond t (Ok x) (Err why) ≡ Ok a → (t ≡ true) × (x ≡ a)
where_true true why x a e = (refl, cc)
where_true false why x a e = absurd cc

abbrev same_result : Result CatalogueView LoadFault → Result CatalogueView LoadFault → Type 0
same_result r s = r ≡ s

-- one more name, which none before it equals
pub distinct_push : (xs : List (List ℕ)) (y : List ℕ) → IsDistinct bytes_eq xs → list_any (λ n. bytes_eq n y) xs ≡ false → IsDistinct bytes_eq (xs ++ y ∷ [])
unfolding IsDistinct
distinct_push [] y apart new = (tt, tt)
distinct_push (x ∷ xs) y apart new =
    let both = or_parts (bytes_eq x y) (list_any (λ n. bytes_eq n y) xs) new in
    (all_push (λ n. bytes_eq x n ≡ false) xs y apart.0 both.0, distinct_push xs y apart.1 both.1)

map_within : (l : MapLimits) (s : Shape) (line : List ℕ) → AreLimits l → Spells l (Map s) line → IsShapeWithin l s
map_within l (Array v e) line ok h = let key = ok.key in record { key = (omega arith, key.0); value = h.1; entries = h.2 }
map_within l (Hash k v e) line ok h = record { key = h.1; value = h.2; entries = h.3 }

program_within : (l : MapLimits) (p : ProgramLine) (line : List ℕ) → AreLimits l → Spells l (Program p) line → p.arg_len ≤ MOST_ARG_LEN
program_within l p line ok h = let a = ok.argument in omega (arith, h.2, a)

no_programs : {X : Type 0} (ps : List X) → ltb 0 (length ps) ≡ false → ps ≡ []
no_programs ps e = nil_from_length ps (omega (arith, ltb-false 0 (length ps) e))

pub after_map : (l : MapLimits) (v : CatalogueView) (s : Shape) (w : CatalogueView) → with_map l v s ≡ Ok w
    → (v.programs ≡ []) × (are_few l (v.shapes ++ s ∷ []) ≡ true) × (record v { shapes = v.shapes ++ s ∷ [] } ≡ w)
unfolding with_map
after_map l v s w e =
    let first = unless (ltb 0 (length v.programs)) faults.BadLine _ w e in
    let second = where_true (are_few l (v.shapes ++ s ∷ [])) faults.TooMany _ w first.1 in
    (no_programs v.programs first.0, second.0, second.1)

pub record IsAfterProgram (fs : Files) (v : CatalogueView) (p : ProgramLine) (w : CatalogueView) : Type 0 where
  pub entry : Entry
  pub read : entry_for fs v.shapes p ≡ Ok entry
  pub some_map : eqb (length v.shapes) 0 ≡ false
  pub new : is_taken v.programs p.name ≡ false
  pub few : length v.programs < MAX_PROGRAMS
  pub same : record v { programs = v.programs ++ entry ∷ [] } ≡ w

pub after_program : (fs : Files) (v : CatalogueView) (p : ProgramLine) (w : CatalogueView) → with_program fs v p ≡ Ok w → IsAfterProgram fs v p w
unfolding with_program with_entry
after_program fs v p w e =
    let first = unless (eqb (length v.shapes) 0 || is_taken v.programs p.name) faults.BadLine _ w e in
    let test = or_parts _ _ first.0 in
    let entry = steps (entry_for fs v.shapes p) (with_entry v) w first.1 in
    let last = where_true (ltb (length v.programs) MAX_PROGRAMS) faults.TooMany _ w entry.2 in
    record { entry = entry.0; read = entry.1; some_map = test.0; new = test.1; few = ltb-true _ _ last.0; same = last.1 }

with_one_map : (l : MapLimits) (v : CatalogueView) (s : Shape) → IsPartial l v → IsShapeWithin l s → v.programs ≡ [] → are_few l (v.shapes ++ s ∷ []) ≡ true → IsPartial l (record v { shapes = v.shapes ++ s ∷ [] })
with_one_map l v s so_far within none few =
    record {
      limits = so_far.limits;
      within = All-push (IsShapeWithin l) v.shapes s so_far.within within;
      few_maps = few;
      accepted = subst (AreFor (v.shapes ++ s ∷ [])) (sym none) (All-nil (λ e. e.checked.shapes ≡ v.shapes ++ s ∷ []));
      checked = subst AreAccepted (sym none) (All-nil (λ e. IsAccepted e.checked));
      distinct = so_far.distinct;
      few = so_far.few;
      no_places = so_far.no_places;
      no_long = so_far.no_long;
      no_opening = so_far.no_opening;
    }

with_one_program : (l : MapLimits) (fs : Files) (v : CatalogueView) (p : ProgramLine) (w : CatalogueView) → IsPartial l v → p.arg_len ≤ MOST_ARG_LEN → (a : IsAfterProgram fs v p w) → IsPartial l (record v { programs = v.programs ++ a.entry ∷ [] })
with_one_program l fs v p w so_far fits a =
    let is = entry_from fs v.shapes p a.entry a.read in
    let some : 0 < length v.shapes = omega (arith, eqb-false _ _ a.some_map) in
    let good : AreShapesSupported v.shapes = shapes_are_ok l v.shapes so_far.limits some so_far.within so_far.few_maps in
    let new : list_any (λ n. bytes_eq n a.entry.name) (names_of v.programs) ≡ false = subst (λ m. list_any (λ n. bytes_eq n m) (names_of v.programs) ≡ false) (sym is.name) a.new in
    let names : names_of (v.programs ++ a.entry ∷ []) ≡ names_of v.programs ++ a.entry.name ∷ [] = map-append (λ e. e.name) v.programs (a.entry ∷ []) in
    record {
      limits = so_far.limits;
      within = so_far.within;
      few_maps = so_far.few_maps;
      accepted = All-push (λ e. e.checked.shapes ≡ v.shapes) v.programs a.entry so_far.accepted (ap (λ x. x.shapes) is.checked_for);
      checked = All-push (λ e. IsAccepted e.checked) v.programs a.entry so_far.checked (entry_accepted fs v.shapes p a.entry good fits is);
      distinct = subst (IsDistinct bytes_eq) (sym names) (distinct_push (names_of v.programs) a.entry.name so_far.distinct new);
      few = omega (arith, length_push v.programs a.entry, a.few);
      no_places = so_far.no_places;
      no_long = so_far.no_long;
      no_opening = so_far.no_opening;
    }

inside_ok : (v w : CatalogueView) → same_result (Ok v) (Ok w) → v ≡ w
inside_ok v w e = cc

-- what is kept from line to line
pub stays : (l : MapLimits) (fs : Files) (v : CatalogueView) (line : List ℕ) (w : CatalogueView) → IsPartial l v → after_line l fs v line ≡ Ok w → IsPartial l w
unfolding after_line
stays l fs v line w so_far e = by_meaning (line_meaning l line) refl e
  where
    by_meaning : (o : Option Meaning) → line_meaning l line ≡ o → after_meaning l fs v o ≡ Ok w → IsPartial l w
    by_meaning None is e = absurd cc
    by_meaning (Some Comment) is e = subst (IsPartial l) (inside_ok v w e) so_far
    by_meaning (Some (Map s)) is e =
        let a = after_map l v s w e in
        subst (IsPartial l) a.2 (with_one_map l v s so_far (map_within l s line so_far.limits (spelled l line (Map s) is).1) a.0 a.1)
    by_meaning (Some (Program p)) is e =
        let a = after_program fs v p w e in
        subst (IsPartial l) a.same (with_one_program l fs v p w so_far (program_within l p line so_far.limits (spelled l line (Program p) is).1) a)

pub is_catalogue : (l : MapLimits) (v : CatalogueView) → IsPartial l v → 0 < length v.shapes → IsCatalogue v
is_catalogue l v so_far some =
    record {
      shapes = shapes_are_ok l v.shapes so_far.limits some so_far.within so_far.few_maps;
      accepted = so_far.accepted;
      checked = so_far.checked;
      distinct = so_far.distinct;
      few = so_far.few;
      few_places = omega (arith, so_far.no_places);
      few_bytes = omega (arith, so_far.no_long);
      opening = subst (λ o. IfSome o (IsState (sizes_for v))) (sym so_far.no_opening) tt;
    }

pub nothing_partial : (l : MapLimits) → AreLimits l → IsPartial l (record { shapes = []; programs = []; places = 0; long = 0; opening = None })
unfolding IsDistinct
nothing_partial l ok = record { limits = ok; within = All-nil (IsShapeWithin l); few_maps = le-leb 0 l.bytes (omega arith); accepted = All-nil (λ e. e.checked.shapes ≡ []); checked = All-nil (λ e. IsAccepted e.checked); distinct = tt; few = omega arith; no_places = refl; no_long = refl; no_opening = refl }

-- Lines that are good one after another are what their catalogue offers.
use Rattle.maps.specs.declared.shapes.MapLimits.{MapLimits}
use Rattle.maps.specs.Shapes.{AreLimits}
use Rattle.std.proofs.Common.{◌≡◌, ℕ, ◌+◌, ◌<◌, List, [], ◌∷◌, ◌++◌, length, map, Option, Some, None, Ok, refl, sym, ap, ap₂, subst, ◌∙◌, arith, append_assoc}
use Rattle.std.specs.Prelude.{filter}
use Rattle.std.proofs.lemmas.Bool.{eqb-false}
use Rattle.std.proofs.lemmas.List.{length_push, append-nil}
use Rattle.maps.specs.declared.shapes.Shape.{Shape}
use Rattle.loader.specs.Grammar.{ProgramLine, Meaning, Comment, Map, Program, line_meaning}
use Rattle.loader.specs.CatalogueView.{Entry, CatalogueView}
use Rattle.loader.specs.ProgramFiles.{Files, entry_for}
use Rattle.loader.specs.Loading.{after_meaning, after_line, nothing_yet}
use Rattle.loader.specs.Offers.{says_something, Offers}
use Rattle.loader.specs.PartialView.{IsPartial}
use Rattle.loader.proofs.Entries.{entries_from}
use Rattle.loader.proofs.Steps.{after_map, IsAfterProgram, after_program, stays, nothing_partial}

-- each line in turn is good after those before it
abbrev pub Passes : MapLimits → Files → List (List ℕ) → CatalogueView → CatalogueView → Type 0
Passes lim fs [] v c = v ≡ c
Passes lim fs (l ∷ ls) v c = (w : CatalogueView) × (after_line lim fs v l ≡ Ok w) × Passes lim fs ls w c

pub passes_stay : (lim : MapLimits) (fs : Files) (ls : List (List ℕ)) (v c : CatalogueView) → IsPartial lim v → Passes lim fs ls v c → IsPartial lim c
passes_stay lim fs [] v c so_far p = subst (IsPartial lim) p so_far
passes_stay lim fs (l ∷ ls) v c so_far p = passes_stay lim fs ls p.0 c (stays lim fs v l p.0 so_far p.1) p.2

-- what the lines add to the catalogue so far
pub record Adds (lim : MapLimits) (fs : Files) (ls : List (List ℕ)) (v c : CatalogueView) : Type 0 where
  pub meanings : List Meaning
  pub each : map (line_meaning lim) ls ≡ map Some meanings
  pub maps : List Shape
  pub programs : List ProgramLine
  pub in_order : filter says_something meanings ≡ map Map maps ++ map Program programs
  pub entries : List Entry
  pub checked : map (entry_for fs c.shapes) programs ≡ map Ok entries
  pub shapes : c.shapes ≡ v.shapes ++ maps
  pub all : c.programs ≡ v.programs ++ entries
  pub maps_first : 0 < length v.programs → maps ≡ []
  pub some_map : 0 < length programs → 0 < length c.shapes

adds_nothing : (lim : MapLimits) (fs : Files) (v c : CatalogueView) → v ≡ c → Adds lim fs [] v c
adds_nothing lim fs v c same =
    record {
      meanings = [];
      each = refl;
      maps = [];
      programs = [];
      in_order = refl;
      entries = [];
      checked = refl;
      shapes = sym (append-nil v.shapes ∙ ap (λ x. x.shapes) same);
      all = sym (append-nil v.programs ∙ ap (λ x. x.programs) same);
      maps_first = λ _. refl;
      some_map = λ lt. absurd (omega (arith, lt));
    }

adds_comment : (lim : MapLimits) (fs : Files) (l : List ℕ) (ls : List (List ℕ)) (v w c : CatalogueView) → line_meaning lim l ≡ Some Comment → v ≡ w → Adds lim fs ls w c → Adds lim fs (l ∷ ls) v c
adds_comment lim fs l ls v w c is same k =
    record {
      meanings = Comment ∷ k.meanings;
      each = ap₂ ◌∷◌ is k.each;
      maps = k.maps;
      programs = k.programs;
      in_order = k.in_order;
      entries = k.entries;
      checked = k.checked;
      shapes = subst (λ x. c.shapes ≡ x.shapes ++ k.maps) (sym same) k.shapes;
      all = subst (λ x. c.programs ≡ x.programs ++ k.entries) (sym same) k.all;
      maps_first = subst (λ x. 0 < length x.programs → k.maps ≡ []) (sym same) k.maps_first;
      some_map = k.some_map;
    }

adds_map : (lim : MapLimits) (fs : Files) (l : List ℕ) (ls : List (List ℕ)) (v w c : CatalogueView) (s : Shape) → line_meaning lim l ≡ Some (Map s) → v.programs ≡ [] → record v { shapes = v.shapes ++ s ∷ [] } ≡ w → Adds lim fs ls w c → Adds lim fs (l ∷ ls) v c
adds_map lim fs l ls v w c s is none same k =
    record {
      meanings = Map s ∷ k.meanings;
      each = ap₂ ◌∷◌ is k.each;
      maps = s ∷ k.maps;
      programs = k.programs;
      in_order = ap (λ r. Map s ∷ r) k.in_order;
      entries = k.entries;
      checked = k.checked;
      shapes = k.shapes ∙ ap (λ x. x.shapes ++ k.maps) (sym same) ∙ append_assoc v.shapes (s ∷ []) k.maps;
      all = k.all ∙ ap (λ x. x.programs ++ k.entries) (sym same);
      maps_first = λ lt. absurd (omega (arith, lt, ap length none));
      some_map = k.some_map;
    }

adds_program : (lim : MapLimits) (fs : Files) (l : List ℕ) (ls : List (List ℕ)) (v w c : CatalogueView) (p : ProgramLine) → line_meaning lim l ≡ Some (Program p) → IsAfterProgram fs v p w → Adds lim fs ls w c → Adds lim fs (l ∷ ls) v c
adds_program lim fs l ls v w c p is a k =
    let more : length w.programs ≡ length v.programs + 1 = ap (λ x. length x.programs) (sym a.same) ∙ length_push v.programs a.entry in
    let none : k.maps ≡ [] = k.maps_first (omega (arith, more)) in
    let shapes : c.shapes ≡ v.shapes = k.shapes ∙ ap₂ (λ x m. x.shapes ++ m) (sym a.same) none ∙ append-nil v.shapes in
    let some : 0 < length c.shapes = omega (arith, ap length shapes, eqb-false (length v.shapes) 0 a.some_map) in
    record {
      meanings = Program p ∷ k.meanings;
      each = ap₂ ◌∷◌ is k.each;
      maps = [];
      programs = p ∷ k.programs;
      in_order = ap (λ r. Program p ∷ r) (k.in_order ∙ ap (λ m. map Map m ++ map Program k.programs) none);
      entries = a.entry ∷ k.entries;
      checked = ap₂ ◌∷◌ (ap (λ x. entry_for fs x p) shapes ∙ a.read) k.checked;
      shapes = shapes ∙ sym (append-nil v.shapes);
      all = k.all ∙ ap (λ x. x.programs ++ k.entries) (sym a.same) ∙ append_assoc v.programs (a.entry ∷ []) k.entries;
      maps_first = λ _. refl;
      some_map = λ _. some;
    }

inside_ok : (lim : MapLimits) (v w : CatalogueView) (o : Option Meaning) (fs : Files) → o ≡ Some Comment → after_meaning lim fs v o ≡ Ok w → v ≡ w
inside_ok lim v w o fs is e = cc

adds_line : (lim : MapLimits) (fs : Files) (l : List ℕ) (ls : List (List ℕ)) (v w c : CatalogueView) (o : Option Meaning) → line_meaning lim l ≡ o → after_meaning lim fs v o ≡ Ok w → Adds lim fs ls w c → Adds lim fs (l ∷ ls) v c
adds_line lim fs l ls v w c None is e k = absurd cc
adds_line lim fs l ls v w c (Some Comment) is e k = adds_comment lim fs l ls v w c is (inside_ok lim v w (Some Comment) fs refl e) k
adds_line lim fs l ls v w c (Some (Map s)) is e k =
    let a = after_map lim v s w e in
    adds_map lim fs l ls v w c s is a.0 a.2 k
adds_line lim fs l ls v w c (Some (Program q)) is e k = adds_program lim fs l ls v w c q is (after_program fs v q w e) k

pub adds : (lim : MapLimits) (fs : Files) (ls : List (List ℕ)) (v c : CatalogueView) → Passes lim fs ls v c → Adds lim fs ls v c
unfolding after_line
adds lim fs [] v c p = adds_nothing lim fs v c p
adds lim fs (l ∷ ls) v c (w, e, p) = adds_line lim fs l ls v w c (line_meaning lim l) refl e (adds lim fs ls w c p)

-- lines that pass are what their catalogue offers
pub offers_from : (lim : MapLimits) (fs : Files) (ls : List (List ℕ)) (c : CatalogueView) → AreLimits lim → Passes lim fs ls nothing_yet c → Offers lim fs ls c
offers_from lim fs ls c ok p =
    let a = adds lim fs ls nothing_yet c p in
    let s = passes_stay lim fs ls nothing_yet c (nothing_partial lim ok) p in
    record {
      meanings = a.meanings;
      each = a.each;
      programs = a.programs;
      in_order = a.in_order ∙ ap (λ m. map Map m ++ map Program a.programs) (sym a.shapes);
      checked = entries_from fs c.shapes a.programs c.programs (a.checked ∙ ap (map Ok) (sym a.all));
      some_map = a.some_map;
      few_maps = s.few_maps;
      distinct = s.distinct;
      few_programs = s.few;
      no_places = s.no_places;
      no_long = s.no_long;
      no_opening = s.no_opening;
    }

-- A manifest, one line after another.
use Rattle.std.proofs.Common.{◌≡◌, ℕ, ◌&&◌, List, [], ◌∷◌, ◌++◌, map, Option, Some, None, refl, sym, ap, subst, ◌∙◌, append_assoc}
use Rattle.std.specs.Prelude.{not, is_none, MatchOption, option_map}
use Rattle.std.proofs.lemmas.List.{append-nil}
use Rattle.text.specs.Lines.{lines_of, next_line}
use Rattle.maps.specs.declared.shapes.Shape.{Shape}
use Rattle.maps.specs.declared.shapes.MapLimits.{MapLimits}
use Rattle.maps.specs.Shapes.{AreLimits}
use Rattle.loader.specs.declared.refusals.LoadFault.{LoadFault}
use Rattle.loader.specs.declared.refusals.LoadFault.TheVariants.{BadLine}
use Rattle.loader.specs.Grammar.{ProgramLine, Meaning, Comment, Program, line_meaning}
use Rattle.loader.specs.ProgramFiles.{Files, files_of}
use Rattle.explain.proofs.Export.{nothing_within}
use Rattle.explain.specs.Explanation.{IsWithin}
use Rattle.explain.specs.Manifest.{Above, nothing_above, has_map, map_fault, with_line}
use Rattle.findings.specs.declared.causes.Finding.{Finding as TheFinding}
use Rattle.findings.specs.declared.search.Search.{Search}
use Rattle.findings.specs.Findings.{Finding, finding, finding_if, finding_of, findings, of_line, of_lines}
use Rattle.findings.specs.Search.{above_of, name_of, of_named, Adds, TakesLine, TakesMap}

-- ---- what is wrong with a map

pub refuses_map : (l : MapLimits) (a : Above) (s : Shape) (why : LoadFault) → IsWithin l a
    → map_fault l a s ≡ Some why → TakesMap l a s a (Some why)
refuses_map l a s why within is =
    record {
      taken = subst (λ r. MatchOption r ((Some why ≡ None) × (a ≡ record a { shapes = a.shapes ++ s ∷ [] })) (λ e. (Some why ≡ Some e) × (a ≡ a))) (sym is) (refl, refl);
      within = within;
    }

-- ---- one line

-- nothing is found
pub adds_none : (old : List TheFinding) (fs : List Finding) → fs ≡ [] → Adds old old fs
adds_none old fs none = sym (append-nil (map finding_of old)) ∙ ap (λ gs. map finding_of old ++ gs) (sym none)

pub comment_line : (s : Search) (line : List ℕ) (old : List TheFinding) → IsWithin s.limits (above_of s)
    → TakesLine s.line line (Some Comment) s s old old
comment_line s line old within = record { found = adds_none old [] refl; above = refl; within = within; limits = refl; files = refl; name = refl }

pub program_line : (s t : Search) (p : ProgramLine) (line : List ℕ) (old new : List TheFinding)
    → IsWithin s.limits (above_of s)
    → Adds old new (of_named s p)
    → above_of t ≡ record (above_of s) { names = (above_of s).names ++ p.name ∷ [] } → t.limits ≡ s.limits → t.files ≡ s.files → t.name ≡ s.name
    → TakesLine s.line line (Some (Program p)) s t old new
program_line s t p line old new within found above limits files name =
    record {
      found = found;
      above = above;
      within = subst (IsWithin s.limits) (sym above) (record { limits_are = within.limits_are; each = within.each; few = within.few });
      limits = limits;
      files = files;
      name = name;
    }

-- what the line means, and with its number
pub numbered : (n : ℕ) (line : List ℕ) (m other : Option Meaning) (s t : Search) (old new : List TheFinding) → m ≡ other → TakesLine n line m (record s { line = n }) t old new
    → TakesLine n line other s t old new
numbered n line m other s t old new is took =
    subst (λ x. TakesLine n line x s t old new) is (record { found = took.found; above = took.above; within = took.within; limits = took.limits; files = took.files; name = took.name })

-- ---- the lines so far

-- with what is wrong with the lines that are left, what is found is what is wrong with the manifest
pub record SoFar (limits : MapLimits) (files : Files) (name : Option (List ℕ)) (manifest : List ℕ) (s : Search) (n : ℕ) (left : List (List ℕ)) (found : List TheFinding) : Type 0 where
  pub whole : map finding_of found ++ of_lines limits files name n (above_of s) left ≡ findings limits files name manifest
  pub within : IsWithin limits (above_of s)
  pub same_limits : s.limits ≡ limits
  pub same_files : files_of s.files.now ≡ files
  pub same_name : name_of s ≡ name

module _ (limits : MapLimits) (files : Files) (name : Option (List ℕ)) (manifest : List ℕ) where
  -- before the first line
  pub at_first : (s : Search) (n : ℕ) (left : List (List ℕ)) (found : List TheFinding) → AreLimits limits
      → s.limits ≡ limits → s.shapes.items ≡ [] → s.bad_map ≡ None → s.names.items ≡ []
      → files_of s.files.now ≡ files → name_of s ≡ name
      → n ≡ 1 → left ≡ lines_of manifest → found ≡ [] → SoFar limits files name manifest s n left found
  at_first s n left found are same_limits shapes bad names same_files same_name one all none =
      let above : above_of s ≡ nothing_above =
      ap (λ ss. record { shapes = ss; bad_map = s.bad_map; names = map (λ x. x.now) s.names.items }) shapes
      ∙ ap (λ b. record { shapes = []; bad_map = b; names = map (λ x. x.now) s.names.items }) bad
      ∙ ap (λ ns. record { shapes = []; bad_map = None; names = map (λ x. x.now) ns }) names in
      record {
        whole =
            ap (λ fs. map finding_of fs ++ of_lines limits files name n (above_of s) left) none
            ∙ ap (λ k. of_lines limits files name k (above_of s) left) one
            ∙ ap (λ a. of_lines limits files name 1 a left) above
            ∙ ap (λ ls. of_lines limits files name 1 nothing_above ls) all;
        within = subst (IsWithin limits) (sym above) (nothing_within limits are);
        same_limits = same_limits;
        same_files = same_files;
        same_name = same_name;
      }

  -- one line more
  pub line_more : (s t : Search) (n m : ℕ) (line : List ℕ) (left rest : List (List ℕ)) (old new : List TheFinding)
      → SoFar limits files name manifest s n left old → left ≡ line ∷ rest → m ≡ next_line n
      → TakesLine n line (line_meaning s.limits line) s t old new → SoFar limits files name manifest t m rest new
  line_more s t n m line left rest old new so first next took =
      let tk = subst (λ l. TakesLine n line (line_meaning l line) s t old new) so.same_limits took in
      let above = subst (λ l. above_of t ≡ with_line l n line (line_meaning limits line) (above_of s)) so.same_limits tk.above in
      let by_limits = subst (λ l. Adds old new (of_line l (files_of s.files.now) (name_of s) n (above_of s) (line_meaning limits line))) so.same_limits tk.found in
      let by_files = subst (λ fs. Adds old new (of_line limits fs (name_of s) n (above_of s) (line_meaning limits line))) so.same_files by_limits in
      let here = subst (λ o. Adds old new (of_line limits files o n (above_of s) (line_meaning limits line))) so.same_name by_files in
      let after = of_line limits files name n (above_of s) (line_meaning limits line) in
      record {
        whole =
            ap (λ fs. fs ++ of_lines limits files name m (above_of t) rest) here
            ∙ append_assoc (map finding_of old) after (of_lines limits files name m (above_of t) rest)
            ∙ ap (λ k. map finding_of old ++ (after ++ of_lines limits files name k (above_of t) rest)) next
            ∙ ap (λ a. map finding_of old ++ (after ++ of_lines limits files name (next_line n) a rest)) above
            ∙ ap (λ ls. map finding_of old ++ of_lines limits files name n (above_of s) ls) (sym first)
            ∙ so.whole;
        within = subst (λ l. IsWithin l (above_of t)) so.same_limits tk.within;
        same_limits = tk.limits ∙ so.same_limits;
        same_files = ap (λ x. files_of x.now) tk.files ∙ so.same_files;
        same_name = ap (λ o. option_map (λ x. x.now) o) tk.name ∙ so.same_name;
      }

  -- after the last line
  pub the_end : (s : Search) (n : ℕ) (left : List (List ℕ)) (old new : List TheFinding)
      → SoFar limits files name manifest s n left old → left ≡ []
      → Adds old new (finding_if (is_none (name_of s) && not (has_map (above_of s))) (finding n None BadLine))
      → map finding_of new ≡ findings limits files name manifest
  the_end s n left old new so none found =
      let here = subst (λ o. Adds old new (finding_if (is_none o && not (has_map (above_of s))) (finding n None BadLine))) so.same_name found in
      here ∙ ap (λ ls. map finding_of old ++ of_lines limits files name n (above_of s) ls) (sym none) ∙ so.whole

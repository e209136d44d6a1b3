-- A manifest, one line after another.
use Rattle.std.proofs.Common.{◌≡◌, ℕ, List, [], ◌∷◌, ◌++◌, map, Option, Some, None, refl, sym, ap, subst, ◌∙◌, append_assoc, arith}
use Rattle.std.specs.Prelude.{not, is_none, ◌&&◌, option_map}
use Rattle.std.specs.List.{All}
use Rattle.std.proofs.lemmas.Bool.{le-leb}
use Rattle.text.specs.Lines.{lines_of, next_line}
use Rattle.maps.specs.declared.shapes.MapLimits.{MapLimits}
use Rattle.maps.specs.Shapes.{AreLimits, IsShapeWithin}
use Rattle.loader.specs.declared.refusals.LoadFault.TheVariants.{BadLine}
use Rattle.loader.specs.Grammar.{ProgramLine, Meaning, Comment, Program, line_meaning}
use Rattle.loader.specs.ProgramFiles.{Files, files_of}
use Rattle.explain.specs.declared.files.manifest.Explanation.{Explanation}
use Rattle.explain.specs.Explanation.{above_of, name_of, IsWithin, TakesLine}
use Rattle.explain.specs.Manifest.{nothing_above, has_map, is_asked, with_line, line_fault, TellsIfAsked, TellsOfLine, TellsOfLines, TellsOfAll}
use Rattle.explain.specs.Told.{BeginsIf, Adds}
use Rattle.explain.proofs.Texts.{adds_nothing}

-- ---- one line

pub comment_line : (e : Explanation) (line old : List ℕ) → IsWithin e.limits (above_of e)
    → TakesLine e.line line (Some Comment) e e old old
comment_line e line old within = record { told = adds_nothing _ old refl; above = refl; within = within; limits = refl; files = refl; name = refl }

pub program_line : (e f : Explanation) (p : ProgramLine) (line old new : List ℕ) → IsWithin e.limits (above_of e)
    → Adds (TellsIfAsked (is_asked (name_of e) (Some (Program p))) (files_of e.files.now) e.line (above_of e) p) old new
    → above_of f ≡ record (above_of e) { names = (above_of e).names ++ p.name ∷ [] } → f.limits ≡ e.limits → f.files ≡ e.files → f.name ≡ e.name
    → TakesLine e.line line (Some (Program p)) e f old new
program_line e f p line old new within told above limits files name =
    record {
      told = told;
      above = above;
      within = subst (IsWithin e.limits) (sym above) (record { limits_are = within.limits_are; each = within.each; few = within.few });
      limits = limits;
      files = files;
      name = name;
    }

-- what the line means, and with its number
pub numbered : (n : ℕ) (line : List ℕ) (m other : Option Meaning) (e f : Explanation) (old new : List ℕ) → m ≡ other → TakesLine n line m (record e { line = n }) f old new
    → TakesLine n line other e f old new
numbered n line m other e f old new is t =
    subst (λ x. TakesLine n line x e f old new) is (record { told = t.told; above = t.above; within = t.within; limits = t.limits; files = t.files; name = t.name })

-- ---- the lines so far

-- with what is told of the lines that are left, what stands there is what is told of the manifest
pub record SoFar (limits : MapLimits) (files : Files) (name : Option (List ℕ)) (manifest : List ℕ) (e : Explanation) (n : ℕ) (left : List (List ℕ)) (out : List ℕ) : Type 0 where
  pub whole : (rest : List ℕ) → TellsOfLines limits files name n (above_of e) left rest
      → TellsOfAll limits files name manifest (out ++ rest)
  pub within : IsWithin limits (above_of e)
  pub same_limits : e.limits ≡ limits
  pub same_files : files_of e.files.now ≡ files
  pub same_name : name_of e ≡ name

none_within : (limits : MapLimits) → All (IsShapeWithin limits) []
none_within limits k d lt = absurd (omega (arith, lt))

pub nothing_within : (limits : MapLimits) → AreLimits limits → IsWithin limits nothing_above
nothing_within limits are = record { limits_are = are; each = none_within limits; few = rw (le-leb 0 limits.bytes (omega arith)) refl }

module _ (limits : MapLimits) (files : Files) (name : Option (List ℕ)) (manifest : List ℕ) where
  -- before the first line
  pub at_first : (e : Explanation) (n : ℕ) (left : List (List ℕ)) (out : List ℕ) → AreLimits limits
      → e.limits ≡ limits → e.shapes.items ≡ [] → e.bad_map ≡ None → e.names.items ≡ []
      → files_of e.files.now ≡ files → name_of e ≡ name
      → n ≡ 1 → left ≡ lines_of manifest → out ≡ [] → SoFar limits files name manifest e n left out
  at_first e n left out are same_limits shapes bad names same_files same_name one all none =
      let above : above_of e ≡ nothing_above =
      ap (λ ss. record { shapes = ss; bad_map = e.bad_map; names = map (λ x. x.0.now) e.names.items }) shapes
      ∙ ap (λ b. record { shapes = []; bad_map = b; names = map (λ x. x.0.now) e.names.items }) bad
      ∙ ap (λ ns. record { shapes = []; bad_map = None; names = map (λ x. x.0.now) ns }) names in
      record {
        whole = λ rest tells.
            subst (λ o. TellsOfAll limits files name manifest (o ++ rest)) (sym none)
            (subst (λ k. TellsOfLines limits files name k nothing_above (lines_of manifest) rest) one
            (subst (λ ls. TellsOfLines limits files name n nothing_above ls rest) all (subst (λ a. TellsOfLines limits files name n a left rest) above tells)));
        within = subst (IsWithin limits) (sym above) (nothing_within limits are);
        same_limits = same_limits;
        same_files = same_files;
        same_name = same_name;
      }

  -- one line more
  pub line_more : (e f : Explanation) (n m : ℕ) (line : List ℕ) (left rest : List (List ℕ)) (old new : List ℕ)
      → SoFar limits files name manifest e n left old → left ≡ line ∷ rest → m ≡ next_line n
      → TakesLine n line (line_meaning e.limits line) e f old new → SoFar limits files name manifest f m rest new
  line_more e f n m line left rest old new s first next took =
      let t = subst (λ l. TakesLine n line (line_meaning l line) e f old new) s.same_limits took in
      let above = subst (λ l. above_of f ≡ with_line l n line (line_meaning limits line) (above_of e)) s.same_limits t.above in
      let told = subst (λ l. Adds (TellsOfLine l (files_of e.files.now) (name_of e) n (above_of e) (line_meaning limits line)) old new) s.same_limits t.told in
      record {
        whole = λ more tells.
            let under : TellsOfLines limits files name (next_line n) (with_line limits n line (line_meaning limits line) (above_of e)) rest more =
            subst (λ k. TellsOfLines limits files name k (with_line limits n line (line_meaning limits line) (above_of e)) rest more) next (subst (λ a. TellsOfLines limits files name m a rest more) above tells) in
            let here = subst (λ o. Adds (TellsOfLine limits files o n (above_of e) (line_meaning limits line)) old new) s.same_name (subst (λ fs. Adds (TellsOfLine limits fs (name_of e) n (above_of e) (line_meaning limits line)) old new) s.same_files told) in
            subst (TellsOfAll limits files name manifest) (sym (ap (λ t. t ++ more) here.1 ∙ append_assoc old here.0 more))
            (s.whole (here.0 ++ more) (subst (λ ls. TellsOfLines limits files name n (above_of e) ls (here.0 ++ more)) (sym first) (here.0, more, refl, here.2, under)));
        within = subst (λ l. IsWithin l (above_of f)) s.same_limits t.within;
        same_limits = t.limits ∙ s.same_limits;
        same_files = ap (λ x. files_of x.now) t.files ∙ s.same_files;
        same_name = ap (λ o. option_map (λ x. x.now) o) t.name ∙ s.same_name;
      }

  -- behind the last line
  pub the_end : (e : Explanation) (n : ℕ) (left : List (List ℕ)) (old new : List ℕ)
      → SoFar limits files name manifest e n left old → left ≡ []
      → Adds (BeginsIf (is_none (name_of e) && not (has_map (above_of e))) (line_fault n BadLine)) old new
      → TellsOfAll limits files name manifest new
  the_end e n left old new s none told =
      let here = subst (λ o. Adds (BeginsIf (is_none o && not (has_map (above_of e))) (line_fault n BadLine)) old new) s.same_name told in
      subst (TellsOfAll limits files name manifest) (sym here.1) (s.whole here.0 (subst (λ ls. TellsOfLines limits files name n (above_of e) ls here.0) (sym none) here.2))

-- What is drawn of a manifest, one line after another.
use Rattle.std.proofs.Common.{◌≡◌, ℕ, true, false, List, [], ◌∷◌, ◌++◌, Option, Result, Ok, Err, refl, sym, ap, subst, ◌∙◌, append_assoc}
use Rattle.std.specs.Prelude.{is_ok, codes, MatchResult}
use Rattle.std.specs.List.{concat}
use Rattle.std.proofs.lemmas.List.{append-nil}
use Rattle.text.specs.Lines.{next_line}
use Rattle.maps.specs.declared.shapes.MapLimits.{MapLimits}
use Rattle.loader.specs.Grammar.{ProgramLine, line_meaning}
use Rattle.loader.specs.ProgramFiles.{Files}
use Rattle.explain.specs.Graph.{asked_program, no_cluster, DrawsLine, DrawsLines, DrawsProgram, IsCluster}
use Rattle.explain.specs.Manifest.{program_in}
use Rattle.explain.specs.Told.{Adds}

-- ---- one program

pub cluster : (name inside old new : List ℕ)
    → new ≡ old ++ concat (codes "  subgraph \"cluster_" ∷ name ∷ codes "\" {\n    label=\"" ∷ name ∷ codes "\";\n" ∷ inside ∷ codes "  }\n" ∷ []) → Adds (IsCluster name) old new
cluster name inside old new put = (_, put, (inside, refl))

if_ok : {T E : Type 0} (r : Result T E) (P Q : Type 0) → is_ok r ≡ true → P → MatchResult r (λ _. P) (λ _. Q)
if_ok (Ok x) P Q is p = p
if_ok (Err e) P Q is p = absurd cc

if_err : {T E : Type 0} (r : Result T E) (P Q : Type 0) → is_ok r ≡ false → Q → MatchResult r (λ _. P) (λ _. Q)
if_err (Ok x) P Q is q = absurd cc
if_err (Err e) P Q is q = q

module _ (files : Files) (n : ℕ) (p : ProgramLine) (old new : List ℕ) where
  -- its file spells a program, or none
  pub is_drawn : is_ok (program_in files p.file) ≡ true → Adds (IsCluster p.name) old new
      → Adds (DrawsProgram files n p) old new
  is_drawn is drawn = (drawn.0, drawn.1, if_ok (program_in files p.file) (IsCluster p.name drawn.0) (drawn.0 ≡ no_cluster n p.name) is drawn.2)

  pub is_remark : is_ok (program_in files p.file) ≡ false → new ≡ old ++ no_cluster n p.name
      → Adds (DrawsProgram files n p) old new
  is_remark is put = (no_cluster n p.name, put, if_err (program_in files p.file) (IsCluster p.name (no_cluster n p.name)) (no_cluster n p.name ≡ no_cluster n p.name) is refl)

-- ---- the lines so far

module _ (limits : MapLimits) (files : Files) (name : Option (List ℕ)) (all : List (List ℕ)) (old : List ℕ) where
  -- with what is drawn of the lines that are left, what was added is what is drawn of all
  abbrev pub SoFar : ℕ → List (List ℕ) → List ℕ → Type 0
  SoFar n left out = (rest : List ℕ) → DrawsLines limits files name n left rest → Adds (DrawsLines limits files name 1 all) old (out ++ rest)

  -- before the first line
  pub at_first : (n : ℕ) (left : List (List ℕ)) → n ≡ 1 → left ≡ all → SoFar n left old
  at_first n left one same = λ rest draws.
      (rest, refl, subst (λ k. DrawsLines limits files name k all rest) one (subst (λ ls. DrawsLines limits files name n ls rest) same draws))

  -- one line more
  pub line_more : (n m : ℕ) (line : List ℕ) (left more : List (List ℕ)) (out new : List ℕ) → SoFar n left out
      → left ≡ line ∷ more → m ≡ next_line n
      → Adds (DrawsLine files n (asked_program name (line_meaning limits line))) out new → SoFar m more new
  line_more n m line left more out new s first next here = λ rest draws.
      subst (Adds (DrawsLines limits files name 1 all) old) (sym (ap (λ t. t ++ rest) here.1 ∙ append_assoc out here.0 rest))
      (s (here.0 ++ rest)
      (subst (λ ls. DrawsLines limits files name n ls (here.0 ++ rest)) (sym first)
      (here.0, rest, refl, here.2, subst (λ k. DrawsLines limits files name k more rest) next draws)))

  -- behind the last line
  pub the_end : (n : ℕ) (left : List (List ℕ)) (out : List ℕ) → SoFar n left out → left ≡ []
      → Adds (DrawsLines limits files name 1 all) old out
  the_end n left out s none =
      subst (Adds (DrawsLines limits files name 1 all) old) (append-nil out) (s [] (subst (λ ls. DrawsLines limits files name n ls []) (sym none) refl))

-- between the first words and the last
pub whole : (head end none one mid new : List ℕ) (P : List ℕ → Type 0) → none ≡ [] → one ≡ none ++ head
    → Adds P one mid → new ≡ mid ++ end
    → (drawn : List ℕ) × (new ≡ concat (head ∷ drawn ∷ end ∷ [])) × P drawn
whole head end none one mid new P is first added last = (
  added.0,
  last
      ∙ ap (λ t. t ++ end) (added.1 ∙ ap (λ t. t ++ added.0) (first ∙ ap (λ t. t ++ head) is))
      ∙ append_assoc head added.0 end
      ∙ ap (λ t. head ++ (added.0 ++ t)) (sym (append-nil end)),
  added.2,
)

-- What `check` and `explain` answer, as a function of the manifest and of the files that were read.
use Rattle.std.specs.Prelude.{◌≡◌, ℕ, Bool, true, false, List, [], ◌++◌, codes, Option, Some, None, IfSome, Result, Ok, Err}
use Rattle.explain.specs.Graph.{DrawsManifest}
use Rattle.explain.specs.Manifest.{has_program, no_program, TellsOfManifest}
use Rattle.engine.specs.declared.replies.Verdict.{Verdict}
use Rattle.engine.specs.declared.replies.Verdict.TheVariants as verdicts
use Rattle.engine.specs.Texts.{programs_text, refusal_text}
use Rattle.engine.specs.Answer.{Answer, not_text}
use Rattle.engine.specs.Reading.{TextsRead, limits_of, loaded_by}
use Rattle.console.specs.MapsAnswer.{IsMapsChecked}

-- what is written where all is good, or the line of the refusal alone
abbrev pub good_or_refused : {X E : Type 0} → (X → List ℕ) → (E → List ℕ) → Result X E → Answer
good_or_refused good refused (Ok x) = record { text = good x; verdict = verdicts.Good }
good_or_refused good refused (Err e) = record { text = refused e; verdict = verdicts.Refused }

-- whether all is good
abbrev pub is_good : Verdict → Bool
is_good verdicts.Good = true
is_good verdicts.Refused = false
is_good verdicts.Differs = false

-- `check`: a line for each program
abbrev pub check_answer : Option TextsRead → Answer
check_answer None = not_text
check_answer (Some t) = good_or_refused (λ c. programs_text c.programs) refusal_text (loaded_by t)

-- what is told of a manifest that was read: of the program of this name, or of all where none is given, what `explain_manifest` tells; where no line is
-- that of a program of this name, that there is none. What is told of what is no text isn't defined
pub record IsTold (name : Option (List ℕ)) (read : Option TextsRead) (text : List ℕ) : Type 0 where
  pub manifest : IfSome read (λ t. TellsOfManifest (limits_of t.sizes) t.files name t.manifest text)
  pub missing : IfSome read (λ t. IfSome name (λ n. has_program (limits_of t.sizes) n t.manifest ≡ false → text ≡ no_program n))

-- what `check` answers, or with maps what `check --maps` does
abbrev pub IsChecked : Bool → Option TextsRead → Answer → Type 0
IsChecked false read a = a ≡ check_answer read
IsChecked true read a = IsMapsChecked read a

-- `explain`: what `check` answers, with maps or without, with its verdict, and after it what is told
pub record IsExplanation (maps : Bool) (name : Option (List ℕ)) (read : Option TextsRead) (a : Answer) : Type 0 where
  pub checked : Answer
  pub more : List ℕ
  pub check : IsChecked maps read checked
  pub verdict : a.verdict ≡ checked.verdict
  pub text : a.text ≡ checked.text ++ more
  pub told : IsTold name read more

-- what comes before a graph: a refusal, as a remark in the graph's language
abbrev pub remark_of : Verdict → List ℕ → List ℕ
remark_of verdicts.Refused text = codes "// " ++ text
remark_of verdict text = []

-- the graph of the programs of what was read, or of the one of this name
abbrev pub Draws : Option (List ℕ) → TextsRead → List ℕ → Type 0
Draws name t text = DrawsManifest (limits_of t.sizes) t.files name t.manifest text

-- `explain --graph`: what is no text is not drawn, and `check` answers that. Else the verdict is that of `check`, and its refusal comes before the graph
abbrev pub IsGraph : Option (List ℕ) → Option TextsRead → Answer → Type 0
IsGraph name None a = a ≡ not_text
IsGraph name (Some t) a =
    let checked = check_answer (Some t) in
    (a.verdict ≡ checked.verdict) × (drawn : List ℕ) × (a.text ≡ remark_of checked.verdict checked.text ++ drawn) × Draws name t drawn

-- What the definition of a service says, in other words.
use Rattle.std.specs.Prelude.{◌≡◌, ◌⊎◌, ℕ, ◌≤◌, true, false, not, List, [], ◌∷◌, ◌++◌, length, Ok}
use Rattle.std.specs.List.{list_all}
use Rattle.std.specs.Str.{is_utf8}
use Rattle.text.specs.Lines.{lines_of}
use Rattle.encoding.specs.Encoded.{encoded_text}
use Rattle.loader.specs.CatalogueView.{CatalogueView}
use Rattle.oplog.specs.declared.configuration.TheConstants.{MAX_LIMIT, ENDLESS}
use Rattle.engine.specs.declared.replies.Verdict.TheVariants as verdicts
use Rattle.engine.specs.Answer.{Answer}
use Rattle.running.specs.RunAnswer.{lines_answer}
use Rattle.running.specs.LimitLaws.{lines_reached}
use Rattle.serving.specs.StoreText.{asks}
use Rattle.serving.specs.ServeAnswer.{ServiceState, Served, nothing_served, served, served_after, served_text}

-- how an input is cut doesn't matter
abbrev pub ServedInParts : Type 0
ServedInParts = (c : CatalogueView) (s : ServiceState) (a b : List ℕ) → served c s (a ++ b) ≡ served_after (served c s a).text (served c (served c s a).serving b)

-- each line of a text ends with a line feed, and is UTF-8
abbrev pub EachLineEnds : List ℕ → Type 0
EachLineEnds bytes = (bytes ≡ []) ⊎ ((front : List ℕ) × (bytes ≡ front ++ 10 ∷ []))

abbrev pub AreTextLines : List ℕ → Type 0
AreTextLines bytes = list_all is_utf8 (lines_of bytes) ≡ true

-- no line asks what the store has
abbrev pub AskNothing : List ℕ → Type 0
AskNothing bytes = list_all (λ line. not (asks line)) (lines_of bytes) ≡ true

-- a service begins as the run writes, and behind that stands nothing where the run is good
pub record BeginsAs (text : List ℕ) (run : Answer) : Type 0 where
  pub rest : List ℕ
  pub same : text ≡ run.text ++ rest
  pub whole : run.verdict ≡ verdicts.Good → rest ≡ []

-- a text whose lines all end, are UTF-8 and don't ask is served as its lines are run on a history without an end
abbrev pub ServedIsRunWithoutEnd : Type 0
ServedIsRunWithoutEnd =
    (c : CatalogueView) (bytes : List ℕ) → EachLineEnds bytes → AreTextLines bytes → AskNothing bytes
    → BeginsAs (served_text false c bytes) (lines_answer ENDLESS c 1 [] (lines_of bytes))

-- and as `run` runs them, where those before one that is bad make no more updates than its history may have
abbrev pub ServedIsRun : Type 0
ServedIsRun =
    (c : CatalogueView) (bytes : List ℕ) → EachLineEnds bytes → AreTextLines bytes → AskNothing bytes → length (lines_reached ENDLESS c [] (lines_of bytes)) ≤ MAX_LIMIT
    → BeginsAs (served_text false c bytes) (lines_answer MAX_LIMIT c 1 [] (lines_of bytes))

-- two services wrote the same, and have the same history
pub record IsServedAlike (one other : Served) : Type 0 where
  pub text : one.text ≡ other.text
  pub history : one.serving.history ≡ other.serving.history

-- calls with values are served as the script that `encode` makes of them
abbrev pub ServedIsEncoded : Type 0
ServedIsEncoded =
    (c : CatalogueView) (text script : List ℕ) → EachLineEnds text → AreTextLines text → encoded_text text ≡ Ok script
    → IsServedAlike (served c (nothing_served true) text) (served c (nothing_served false) script)

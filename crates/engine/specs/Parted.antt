-- An answer, and a text that a command makes besides it.
use Rattle.std.specs.Prelude.{ℕ, List, [], ◌++◌, Option, Some, None, option_map}
use Rattle.dumps.specs.Dumping.{StateText}
use Rattle.engine.specs.declared.parted.Destination.{Destination}
use Rattle.engine.specs.declared.parted.Destination.TheVariants as destinations
use Rattle.engine.specs.declared.parted.Handed.{Handed}
use Rattle.engine.specs.declared.parted.Handed.TheVariants.{Text, State}
use Rattle.engine.specs.declared.parted.Parted.{Parted}
use Rattle.engine.specs.Answer.{Answer}
use Rattle.engine.specs.Report.{answer_of}

-- what is written, and what goes elsewhere
pub record PartedAnswer : Type 0 where
  pub answer : Answer
  pub elsewhere : Option (List ℕ)

-- all of it is written
abbrev pub whole : Answer → PartedAnswer
whole a = record { answer = a; elsewhere = None }

-- all of it goes elsewhere, and nothing is written
abbrev pub apart : Answer → PartedAnswer
apart a = record { answer = record a { text = [] }; elsewhere = Some a.text }

-- an answer, and a text that goes nowhere, is written after the answer, or goes elsewhere
abbrev pub sent_to : Destination → Answer → List ℕ → PartedAnswer
sent_to destinations.Nowhere a text = whole a
sent_to destinations.Writer a text = whole (record a { text = a.text ++ text })
sent_to destinations.Elsewhere a text = record { answer = a; elsewhere = Some text }

-- ---- by code

-- the text that is handed on: of a state all that is left of its text
abbrev pub handed_text : Handed → List ℕ
handed_text (Text bytes) = bytes.items
handed_text (State text) = text.left

-- an answer, and after it what is left of the text of a state, if there is one
abbrev pub with_text : Option StateText → Answer → Answer
with_text None a = a
with_text (Some state) a = record a { text = a.text ++ state.left }

abbrev pub parted_of : Parted → PartedAnswer
parted_of p = record { answer = with_text p.state (answer_of p.reply); elsewhere = option_map handed_text p.elsewhere }

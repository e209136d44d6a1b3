-- What one line of a list of steps says.
use Rattle.std.specs.Prelude.{ℕ, Bool, true, List, Option, Some, None, option_map, nat_le, if◌then◌else◌, codes, bytes_eq}
use Rattle.text.specs.Lines.{kind_of, by_kind}
use Rattle.text.specs.Fields.{split_at_space}
use Rattle.text.specs.Words.{◌>>=◌, number_of}
use Rattle.oplog.specs.Calls.{NewProgram}
use Rattle.scripts.specs.declared.step_lines.SlotAt.{SlotAt}
use Rattle.scripts.specs.Script.{ProgramKey, Named, Numbered, KeyedCall, keyed_call, new_program}

-- a comment or an empty line, or a step: of a call or an install at a slot of a node, of such a slot, or of a node
pub data StepMeaning : Type 0 where
  Comment : StepMeaning
  Post : SlotAt → KeyedCall → StepMeaning
  Install : SlotAt → NewProgram → StepMeaning
  ReadBegin : SlotAt → KeyedCall → StepMeaning
  Collect : SlotAt → StepMeaning
  ReadAnswer : SlotAt → StepMeaning
  Claim : ℕ → StepMeaning
  Append : ℕ → StepMeaning
  Replay : ℕ → StepMeaning
  Finish : ℕ → StepMeaning
  Reply : ℕ → StepMeaning
  Reclaim : ℕ → StepMeaning
  Rebase : ℕ → StepMeaning

-- N S
unfoldable pub slot_at : List ℕ → Option SlotAt
slot_at text = do
  field ← split_at_space text
  node ← number_of field.0
  slot ← number_of field.1
  Some (record { node = node; slot = slot })

-- where n programs have names, a program is named by its name, or by a K that is none of their numbers
abbrev pub is_named_so : ℕ → ProgramKey → Bool
is_named_so n (Named name) = true
is_named_so n (Numbered k) = nat_le n k

-- N S NAME HEX, or with such a K in the place of NAME
unfoldable pub call_at : ℕ → List ℕ → Option (SlotAt × KeyedCall)
call_at n text = do
  first ← split_at_space text
  second ← split_at_space first.1
  third ← split_at_space second.1
  node ← number_of first.0
  slot ← number_of second.0
  call ← keyed_call third.0 third.1
  if is_named_so n call.key then Some (record { node = node; slot = slot }, call) else None

-- N S MODE ARGLEN HEX
unfoldable pub install_at : List ℕ → Option (SlotAt × NewProgram)
install_at text = do
  first ← split_at_space text
  second ← split_at_space first.1
  node ← number_of first.0
  slot ← number_of second.0
  program ← new_program second.1
  Some (record { node = node; slot = slot }, program)

-- the step of a node that has this word
abbrev pub node_step : List ℕ → ℕ → Option StepMeaning
node_step word node =
    if bytes_eq word (codes "claim") then Some (Claim node)
    else if bytes_eq word (codes "append") then Some (Append node)
    else if bytes_eq word (codes "replay") then Some (Replay node)
    else if bytes_eq word (codes "finish") then Some (Finish node)
    else if bytes_eq word (codes "reply") then Some (Reply node)
    else if bytes_eq word (codes "reclaim") then Some (Reclaim node)
    else if bytes_eq word (codes "rebase") then Some (Rebase node)
    else None

-- by the first word; behind that of a step of a node stands N
abbrev pub step_words : ℕ → List ℕ → List ℕ → Option StepMeaning
step_words n word rest =
    if bytes_eq word (codes "post") then option_map (λ at. Post at.0 at.1) (call_at n rest)
    else if bytes_eq word (codes "install") then option_map (λ at. Install at.0 at.1) (install_at rest)
    else if bytes_eq word (codes "readbegin") then option_map (λ at. ReadBegin at.0 at.1) (call_at n rest)
    else if bytes_eq word (codes "collect") then option_map Collect (slot_at rest)
    else if bytes_eq word (codes "readanswer") then option_map ReadAnswer (slot_at rest)
    else number_of rest >>= node_step word

unfoldable pub step_meaning : ℕ → List ℕ → Option StepMeaning
step_meaning n line = do
  word ← split_at_space line
  step_words n word.0 word.1

-- what a line says where n programs have names: a line over 512 bytes is bad whatever it holds; an empty line and one that begins with # say nothing
unfoldable pub step_line_meaning : ℕ → List ℕ → Option StepMeaning
step_line_meaning n line = by_kind Comment (step_meaning n line) (kind_of line)

-- What one line of a transcript says.
use Rattle.std.specs.Prelude.{ℕ, List, Option, Some, None, option_map, if◌then◌else◌, codes, bytes_eq}
use Rattle.std.specs.Option.{option_or}
use Rattle.verifier.specs.declared.refusal.Mode.{Mode}
use Rattle.verifier.specs.declared.refusal.Mode.TheVariants.{Update, Read}
use Rattle.text.specs.Lines.{kind_of, by_kind}
use Rattle.text.specs.Fields.{split_at_space}
use Rattle.text.specs.Words.{◌>>=◌, number_of}
use Rattle.oplog.specs.Calls.{NewProgram}
use Rattle.scripts.specs.declared.transcripts.ToldReply.{ToldReply}
use Rattle.scripts.specs.Script.{KeyedCall, keyed_call, program_fields, new_program}

-- a comment or an empty line; an update or a read that was answered, or an install, with the number of updates before it and the reply; or an
-- update or an install that was told that the history has ended
pub data TranscriptMeaning : Type 0 where
  Comment : TranscriptMeaning
  Answered : Mode → KeyedCall → ToldReply → TranscriptMeaning
  Installed : NewProgram → ToldReply → TranscriptMeaning
  Ended : KeyedCall → TranscriptMeaning
  EndedInstall : NewProgram → TranscriptMeaning

-- PLACE NAME HEX REPLY, or with K in the place of NAME
unfoldable pub answered_call : List ℕ → Option (KeyedCall × ToldReply)
answered_call text = do
  first ← split_at_space text
  second ← split_at_space first.1
  third ← split_at_space second.1
  index ← number_of first.0
  call ← keyed_call second.0 third.0
  reply ← number_of third.1
  Some (call, record { index = index; reply = reply })

-- PLACE MODE ARGLEN HEX REPLY
unfoldable pub answered_install : List ℕ → Option (NewProgram × ToldReply)
answered_install text = do
  first ← split_at_space text
  second ← split_at_space first.1
  third ← split_at_space second.1
  fourth ← split_at_space third.1
  index ← number_of first.0
  program ← program_fields second.0 third.0 fourth.0
  reply ← number_of fourth.1
  Some (program, record { index = index; reply = reply })

-- NAME HEX, or with K in the place of NAME
unfoldable pub ended_call : List ℕ → Option KeyedCall
ended_call text = do
  field ← split_at_space text
  keyed_call field.0 field.1

-- by the first letter; behind `e` stand two fields, or three: MODE ARGLEN HEX
abbrev pub transcript_words : List ℕ → List ℕ → Option TranscriptMeaning
transcript_words letter rest =
    if bytes_eq letter (codes "u") then option_map (λ a. Answered Update a.0 a.1) (answered_call rest)
    else if bytes_eq letter (codes "r") then option_map (λ a. Answered Read a.0 a.1) (answered_call rest)
    else if bytes_eq letter (codes "i") then option_map (λ a. Installed a.0 a.1) (answered_install rest)
    else if bytes_eq letter (codes "e") then option_or (option_map Ended (ended_call rest)) (option_map EndedInstall (new_program rest))
    else None

unfoldable pub transcript_meaning : List ℕ → Option TranscriptMeaning
transcript_meaning line = do
  letter ← split_at_space line
  transcript_words letter.0 letter.1

-- a line over 512 bytes is bad whatever it holds; an empty line and one that begins with # say nothing
unfoldable pub transcript_line_meaning : List ℕ → Option TranscriptMeaning
transcript_line_meaning line = by_kind Comment (transcript_meaning line) (kind_of line)

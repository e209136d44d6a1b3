-- What a line that was read says, without where its text lies. Clauses of private functions alone cite this.
use Rattle.oplog.specs.Calls.{Call as NumberedCall, NewProgram}
use Rattle.scripts.specs.declared.script.ProgramCall.{ProgramCall as TheCall}
use Rattle.scripts.specs.declared.script.NumberedCall.{NumberedCall as TheNumberedCall}
use Rattle.scripts.specs.declared.script.ProgramText.{ProgramText}
use Rattle.scripts.specs.declared.script.ProgramKey.{ProgramKey as TheKey}
use Rattle.scripts.specs.declared.script.ProgramKey.TheVariants as keys
use Rattle.scripts.specs.declared.script.KeyedCall.{KeyedCall as TheKeyedCall}
use Rattle.scripts.specs.declared.script.ScriptLine.{ScriptLine}
use Rattle.scripts.specs.declared.script.ScriptLine.TheVariants as lines
use Rattle.scripts.specs.declared.step_lines.StepLine.{StepLine}
use Rattle.scripts.specs.declared.step_lines.StepLine.TheVariants as steps
use Rattle.scripts.specs.declared.transcripts.TranscriptLine.{TranscriptLine}
use Rattle.scripts.specs.declared.transcripts.TranscriptLine.TheVariants as told
use Rattle.scripts.specs.Script.{ProgramCall, ProgramKey, Named, Numbered, KeyedCall, Meaning, Comment, Call, InvokeAt, ReadAt, Install}
use Rattle.scripts.specs.StepLine as said
use Rattle.scripts.specs.StepLine.{StepMeaning}
use Rattle.scripts.specs.Transcript as telling
use Rattle.scripts.specs.Transcript.{TranscriptMeaning}

abbrev pub call_of : TheCall → ProgramCall
call_of c = record { name = c.name.now; argument = c.argument.items }

abbrev pub key_of : TheKey → ProgramKey
key_of (keys.Named name) = Named name.now
key_of (keys.Numbered k) = Numbered k

abbrev pub keyed_of : TheKeyedCall → KeyedCall
keyed_of c = record { key = key_of c.key; argument = c.argument.items }

-- the call of a number, and a program to be installed, as a line says them
abbrev pub at_number_of : TheNumberedCall → NumberedCall
at_number_of c = record { program = c.program; argument = c.argument.items }

abbrev pub program_of : ProgramText → NewProgram
program_of p = record { mode = p.mode; arg_len = p.arg_len; bytes = p.bytes.items }

abbrev pub meaning_of : ScriptLine → Meaning
meaning_of lines.Comment = Comment
meaning_of (lines.Call c) = Call (call_of c)
meaning_of (lines.InvokeAt c) = InvokeAt (at_number_of c)
meaning_of (lines.ReadAt c) = ReadAt (at_number_of c)
meaning_of (lines.Install p) = Install (program_of p)

-- ---- steps

abbrev pub step_of : StepLine → StepMeaning
step_of steps.Comment = said.Comment
step_of (steps.Post at call) = said.Post at (keyed_of call)
step_of (steps.Install at new) = said.Install at (program_of new)
step_of (steps.ReadBegin at call) = said.ReadBegin at (keyed_of call)
step_of (steps.Collect at) = said.Collect at
step_of (steps.ReadAnswer at) = said.ReadAnswer at
step_of (steps.Claim node) = said.Claim node
step_of (steps.Append node) = said.Append node
step_of (steps.Replay node) = said.Replay node
step_of (steps.Finish node) = said.Finish node
step_of (steps.Reply node) = said.Reply node
step_of (steps.Reclaim node) = said.Reclaim node
step_of (steps.Rebase node) = said.Rebase node

-- ---- transcripts

abbrev pub told_of : TranscriptLine → TranscriptMeaning
told_of told.Comment = telling.Comment
told_of (told.Answered mode call reply) = telling.Answered mode (keyed_of call) reply
told_of (told.Installed new reply) = telling.Installed (program_of new) reply
told_of (told.Ended c) = telling.Ended (keyed_of c)
told_of (told.EndedInstall p) = telling.EndedInstall (program_of p)

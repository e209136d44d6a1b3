-- The calls that a script makes on the programs of a catalogue.
use Rattle.std.specs.Prelude.{ℕ, List, [], ◌∷◌, ◌++◌, length, Option, Some, None, option_map, option_and_then, Result, Ok, Err, ◌==◌, if◌then◌else◌}
use Rattle.std.specs.Option.{option_map_or}
use Rattle.std.specs.Result.{result_map_both}
use Rattle.verifier.specs.declared.refusal.Mode.{Mode}
use Rattle.verifier.specs.declared.refusal.Mode.TheVariants.{Update, Read}
use Rattle.text.specs.Lines.{next_line}
use Rattle.text.specs.Fields.{split_at_space}
use Rattle.loader.specs.CatalogueView.{CatalogueView, number_named}
use Rattle.oplog.specs.Calls.{NewProgram}
use Rattle.oplog.specs.Operations.{Operation}
use Rattle.oplog.specs.declared.records.Op.TheVariants as operations
use Rattle.replica.specs.StoreMeaning.{program_at}
use Rattle.replica.specs.Refusals.{early_refusal, install_refusal}
use Rattle.replica.specs.declared.refusals.StoreRefused.{StoreRefused}
use Rattle.scripts.specs.Script.{ProgramCall, Meaning, Comment, Call, InvokeAt, ReadAt, Install, line_meaning}
use Rattle.replaying.specs.ReplayAnswer.{unless_barred}
use Rattle.stress.specs.declared.calls.Asked.{Asked}
use Rattle.stress.specs.declared.calls.Asked.TheVariants as asks

-- a call: the number of its line in the script, what it asks for, and HEX, the digits of its bytes
pub record Called : Type 0 where
  pub line : ℕ
  pub asked : Asked
  pub digits : List ℕ

-- the operation that is asked for, on these bytes
abbrev pub operation_on : Asked → List ℕ → Operation
operation_on (asks.Run mode k) bytes = operations.Run (record { program = k; argument = bytes })
operation_on (asks.Install mode arg_len) bytes = operations.Install (record { mode = mode; arg_len = arg_len; bytes = bytes })

-- the operation's refusal before anything is done
abbrev pub asked_refusal : CatalogueView → Asked → List ℕ → Option StoreRefused
asked_refusal c (asks.Run mode k) bytes = early_refusal c mode k bytes
asked_refusal c (asks.Install mode arg_len) bytes = install_refusal c.shapes c.long (record { mode = mode; arg_len = arg_len; bytes = bytes })

-- an install is told what an update is told
abbrev pub told_as : Asked → Mode
told_as (asks.Run mode k) = mode
told_as (asks.Install mode arg_len) = Update

-- ---- a line

-- a run of the program of this name, in its own mode, where the argument has its length
unfoldable pub program_named : CatalogueView → ProgramCall → Option Asked
program_named c call =
    option_and_then (λ k. option_and_then (λ p. if length call.argument == p.arg_len then Some (asks.Run p.mode k) else None) (program_at c k))
    (number_named c.programs call.name)

-- what is asked for, unless it is refused with these bytes
abbrev pub asked_with : CatalogueView → List ℕ → Asked → Option Asked
asked_with c bytes asked = unless_barred asked (asked_refusal c asked bytes)

-- the install of a program alike
abbrev pub install_with : CatalogueView → NewProgram → Option Asked
install_with c new = asked_with c new.bytes (asks.Install new.mode new.arg_len)

-- what stands behind the first field of a text
abbrev pub behind_field : List ℕ → List ℕ
behind_field text = option_map_or (λ fields. fields.1) (split_at_space text) []

-- the call of line n that asks for this
abbrev pub one_call : ℕ → List ℕ → Option Asked → Option (List Called)
one_call n digits asked = option_map (λ a. record { line = n; asked = a; digits = digits } ∷ []) asked

-- the calls of line n, NAME HEX, invoke K HEX, read K HEX, or install MODE ARGLEN HEX: none for a comment or an empty line; a line that
-- no session could be asked for is bad
abbrev pub calls_said : CatalogueView → ℕ → List ℕ → Option Meaning → Option (List Called)
calls_said c n line None = None
calls_said c n line (Some Comment) = Some []
calls_said c n line (Some (Call call)) = one_call n (behind_field line) (program_named c call)
calls_said c n line (Some (InvokeAt call)) = one_call n (behind_field (behind_field line)) (asked_with c call.argument (asks.Run Update call.program))
calls_said c n line (Some (ReadAt call)) = one_call n (behind_field (behind_field line)) (asked_with c call.argument (asks.Run Read call.program))
calls_said c n line (Some (Install new)) = one_call n (behind_field (behind_field (behind_field line))) (asked_with c new.bytes (asks.Install new.mode new.arg_len))

-- ---- a script

-- the calls of the lines from number n on, or the number of the first bad one
unfoldable pub script_calls : CatalogueView → ℕ → List (List ℕ) → Result (List Called) ℕ
script_calls c n [] = Ok []
script_calls c n (l ∷ ls) =
    option_map_or (λ calls. result_map_both (λ more. calls ++ more) (λ bad. bad) (script_calls c (next_line n) ls))
    (calls_said c n l (line_meaning l)) (Err n)

-- What one line of a script says.
use Rattle.std.specs.Prelude.{ℕ, List, Option, Some, None, option_map, if◌then◌else◌, codes, bytes_eq}
use Rattle.std.specs.Option.{option_or}
use Rattle.text.specs.Lines.{kind_of, by_kind}
use Rattle.text.specs.Fields.{split_at_space}
use Rattle.text.specs.Words.{◌>>=◌, is_name, number_of}
use Rattle.text.specs.Digits.{field_bytes}
use Rattle.loader.specs.Grammar.{mode_of}
use Rattle.oplog.specs.Calls.{Call as NumberedCall, NewProgram}

-- a call of a program: its name, and the bytes of the argument
pub record ProgramCall : Type 0 where
  pub name : List ℕ
  pub argument : List ℕ

-- a program by its name, or by its number
pub data ProgramKey : Type 0 where
  Named : List ℕ → ProgramKey
  Numbered : ℕ → ProgramKey

-- a call of a program by either
pub record KeyedCall : Type 0 where
  pub key : ProgramKey
  pub argument : List ℕ

-- a comment or an empty line; a call of a program by its name; an update or a read by a program's number; or a program to be installed
pub data Meaning : Type 0 where
  Comment : Meaning
  Call : ProgramCall → Meaning
  InvokeAt : NumberedCall → Meaning
  ReadAt : NumberedCall → Meaning
  Install : NewProgram → Meaning

-- the fields NAME and HEX
unfoldable pub named_call : List ℕ → List ℕ → Option ProgramCall
named_call name digits = do
  argument ← field_bytes digits
  if is_name name then Some (record { name = name; argument = argument }) else None

-- NAME or K: a name begins with a letter
unfoldable pub program_key : List ℕ → Option ProgramKey
program_key text = if is_name text then Some (Named text) else option_map Numbered (number_of text)

-- NAME or K, and HEX
unfoldable pub keyed_call : List ℕ → List ℕ → Option KeyedCall
keyed_call text digits = do
  argument ← field_bytes digits
  key ← program_key text
  Some (record { key = key; argument = argument })

-- K HEX
unfoldable pub numbered_call : List ℕ → Option NumberedCall
numbered_call text = do
  field ← split_at_space text
  program ← number_of field.0
  argument ← field_bytes field.1
  Some (record { program = program; argument = argument })

-- the fields MODE, ARGLEN and HEX
unfoldable pub program_fields : List ℕ → List ℕ → List ℕ → Option NewProgram
program_fields word length digits = do
  mode ← mode_of word
  arg_len ← number_of length
  bytes ← field_bytes digits
  Some (record { mode = mode; arg_len = arg_len; bytes = bytes })

-- MODE ARGLEN HEX
unfoldable pub new_program : List ℕ → Option NewProgram
new_program text = do
  first ← split_at_space text
  second ← split_at_space first.1
  program_fields first.0 second.0 second.1

-- invoke K HEX, read K HEX, or install MODE ARGLEN HEX
abbrev pub word_meaning : List ℕ → List ℕ → Option Meaning
word_meaning word rest =
    if bytes_eq word (codes "invoke") then option_map InvokeAt (numbered_call rest)
    else if bytes_eq word (codes "read") then option_map ReadAt (numbered_call rest)
    else if bytes_eq word (codes "install") then option_map Install (new_program rest)
    else None

-- NAME HEX, or with more fields one of these three
unfoldable pub call_meaning : List ℕ → Option Meaning
call_meaning line = do
  field ← split_at_space line
  option_or (option_map Call (named_call field.0 field.1)) (word_meaning field.0 field.1)

-- a line over 512 bytes is bad whatever it holds; an empty line and one that begins with # say nothing
unfoldable pub line_meaning : List ℕ → Option Meaning
line_meaning line = by_kind Comment (call_meaning line) (kind_of line)

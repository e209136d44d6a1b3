-- The program that a file spells, and whether it is accepted.
use Rattle.std.specs.Prelude.{ℕ, List, [], ◌∷◌, map, Option, Some, None, Result, Ok, Err, if◌then◌else◌, bytes_eq}
use Rattle.std.specs.Borrow.{Bor}
use Rattle.text.specs.Digits.{spaced_bytes}
use Rattle.insn.specs.declared.instruction.Form.{Form}
use Rattle.insn.specs.declared.decoding.DecodeRefusal.{DecodeRefusal}
use Rattle.insn.specs.Decoded.{decoded}
use Rattle.maps.specs.declared.shapes.Shape.{Shape}
use Rattle.verifier.specs.declared.refusal.Mode.{Mode}
use Rattle.verifier.specs.declared.refusal.Refused.{Refused}
use Rattle.verifier.specs.Signature.{signature}
use Rattle.verifier.specs.Accepted.{Checked}
use Rattle.verifier.specs.Verdict.{verdict}
use Rattle.loader.specs.declared.refusals.LoadFault.{LoadFault}
use Rattle.loader.specs.declared.refusals.LoadFault.TheVariants as faults
use Rattle.loader.specs.Grammar.{ProgramLine}
use Rattle.loader.specs.CatalogueView.{Entry}

-- the next step, where the one before did not fail
infixl 10 ◌>>=◌
abbrev pub ◌>>=◌ : {A B : Type 0} → Result A LoadFault → (A → Result B LoadFault) → Result B LoadFault
(Ok x) >>= f = f x
(Err e) >>= f = Err e

-- names and texts
abbrev pub Files : Type 0
Files = List (List ℕ × List ℕ)

-- the files that were handed in, by what their references point to
abbrev pub files_of : List (Bor (List ℕ) × Bor (List ℕ)) → Files
files_of files = map (λ f. (f.0.now, f.1.now)) files

-- the text of the first file of this name
abbrev pub file_named : Files → List ℕ → Option (List ℕ)
file_named [] name = None
file_named (f ∷ fs) name = if bytes_eq f.0 name then Some f.1 else file_named fs name

-- ---- the program of a text

abbrev pub or_bad_hex : Option (List ℕ) → Result (List ℕ) LoadFault
or_bad_hex (Some bytes) = Ok bytes
or_bad_hex None = Err faults.BadHex

-- the bytes of a text of hex digits in pairs, blanks skipped
unfoldable pub bytes_of_hex : List ℕ → Result (List ℕ) LoadFault
bytes_of_hex text = or_bad_hex (spaced_bytes text)

abbrev pub or_decode : {E : Type 0} → Result E DecodeRefusal → Result E LoadFault
or_decode (Ok program) = Ok program
or_decode (Err e) = Err (faults.Decode e)

-- the program that bytes spell
unfoldable pub instructions_of : List ℕ → Result (List Form) LoadFault
instructions_of bytes = or_decode (decoded bytes)

abbrev pub unless_refused : Checked → Option Refused → Result Checked LoadFault
unless_refused c None = Ok c
unless_refused c (Some e) = Err (faults.Verify e)

-- the program that a text spells, accepted for these maps, this argument length and this mode
unfoldable pub checked_program : List Shape → ℕ → Mode → List ℕ → Result Checked LoadFault
checked_program shapes arg_len mode text = do
  bytes ← bytes_of_hex text
  program ← instructions_of bytes
  unless_refused (record { program = program; shapes = shapes; arg_len = arg_len; mode = mode }) (verdict program (signature shapes arg_len mode))

abbrev pub or_bad_line : Option (List ℕ) → Result (List ℕ) LoadFault
or_bad_line None = Err faults.BadLine
or_bad_line (Some text) = Ok text

-- what a line's program is: its file was handed in, has hex text, spells a program, and that is accepted; else the first that fails
unfoldable pub entry_for : Files → List Shape → ProgramLine → Result Entry LoadFault
entry_for files shapes line = do
  text ← or_bad_line (file_named files line.file)
  checked ← checked_program shapes line.arg_len line.mode text
  Ok (record { name = line.name; checked = checked })

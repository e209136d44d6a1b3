-- What `asm`, `dis` and `encode` answer, as a function of what was read; and `dis --slots`, where two columns stand before each line: the slot
-- and the bytes of its instruction.
use Rattle.std.specs.Option.{option_map_or}
use Rattle.std.specs.Prelude.{◌≡◌, ℕ, Bool, ◌&&◌, ◌+◌, min, List, [], ◌∷◌, ◌++◌, length, drop, codes, decimal, Option, Some, None, if◌then◌else◌}
use Rattle.hex.specs.Hex.{encode_lower}
use Rattle.insn.specs.declared.instruction.Form.{Form}
use Rattle.insn.specs.Encoding.{program_bytes}
use Rattle.insn.specs.Layout.{slot_count}
use Rattle.insn.specs.Decoded.{decoded}
use Rattle.insn.specs.Refusal as decoding
use Rattle.asm.specs.Assembled.{assembled}
use Rattle.asm.specs.Refusal as assembling
use Rattle.asm.specs.Text.{text_of}
use Rattle.text.specs.Digits.{spaced_bytes}
use Rattle.encoding.specs.Faults.{refusal_line}
use Rattle.encoding.specs.Encoded.{encoded_text}
use Rattle.explain.specs.Assembly.{IsToldOfText}
use Rattle.engine.specs.declared.replies.Notes.{Notes}
use Rattle.engine.specs.declared.replies.Telling.TheVariants.{Reasons}
use Rattle.engine.specs.declared.replies.Verdict.TheVariants as verdicts
use Rattle.engine.specs.Reading.{TextsRead}
use Rattle.engine.specs.Answer.{Answer, not_text}
use Rattle.engine.specs.Parted.{PartedAnswer, apart, whole}
use Rattle.console.specs.CheckAnswer.{good_or_refused, is_good}

-- ---- `asm`

-- a program's bytes in hexadecimal digits with lower-case letters
abbrev pub hex_text : List Form → List ℕ
hex_text program = encode_lower (program_bytes program)

-- the program's bytes in one line; or the first bad line of the assembler text, and what is wrong with it
abbrev pub program_answer : List ℕ → Answer
program_answer source =
    good_or_refused (λ program. hex_text program ++ codes "\n")
    (λ e. codes "line " ++ (decimal e.line ++ (codes ": A" ++ (decimal (assembling.fault_number e.why) ++ codes "\n")))) (assembled source)

abbrev pub asm_answer : Option TextsRead → Answer
asm_answer None = not_text
asm_answer (Some t) = program_answer t.file

-- what is written, and the line that goes elsewhere, where that is asked for: a program's, and no refusal
abbrev pub asm_parted : Bool → Option TextsRead → PartedAnswer
asm_parted is_elsewhere t = if is_elsewhere && is_good (asm_answer t).verdict then apart (asm_answer t) else whole (asm_answer t)

-- with `--explain` it tells beside its answer what `explain_assembly` tells of the text, and nothing where there is no text
abbrev pub TellsOfText : List ℕ → Notes → Notes → Type 0
TellsOfText source old new = old.telling ≡ Reasons → IsToldOfText source (assembled source) new.text.items

abbrev pub AsmTells : Option TextsRead → Notes → Notes → Type 0
AsmTells None old new = new ≡ old
AsmTells (Some t) old new = TellsOfText t.file old new

-- ---- `dis`

-- a number at the right of four columns, and two spaces
abbrev pub slot_column : ℕ → List ℕ
slot_column n = drop (min (length (decimal n)) 4) (codes "    ") ++ (decimal n ++ codes "  ")

-- the line of an instruction at a slot, as `dis` writes it, behind its columns
abbrev pub slot_line : ℕ → Form → List ℕ
slot_line slot i = slot_column slot ++ (hex_text (i ∷ []) ++ (codes "  " ++ text_of (i ∷ [])))

-- the lines of the instructions from this slot on
unfoldable pub slots_text : ℕ → List Form → List ℕ
slots_text slot [] = []
slots_text slot (i ∷ is) = slot_line slot i ++ slots_text (slot + slot_count i) is

-- the lines of a program, with its slots and bytes or without; or why the bytes are none, and at which slot
abbrev pub disassembly : Bool → List ℕ → Answer
disassembly slots bytes =
    good_or_refused (λ program. if slots then slots_text 0 program else text_of program)
    (λ e. codes "D" ++ (decimal (decoding.fault_number e.why) ++ (codes " slot " ++ (decimal e.slot ++ codes "\n")))) (decoded bytes)

-- what `dis` answers, where the file is pairs of hexadecimal digits
abbrev pub dis_answer : Bool → Option TextsRead → Answer
dis_answer slots None = not_text
dis_answer slots (Some t) = option_map_or (disassembly slots) (spaced_bytes t.file) (record { text = codes "bad hex\n"; verdict = verdicts.Refused })

-- ---- `encode`

-- the script
abbrev pub calls_answer : List ℕ → Answer
calls_answer calls = good_or_refused (λ script. script) refusal_line (encoded_text calls)

-- what is written, and the line that goes elsewhere: that of a refused text of calls
abbrev pub encode_parted : Option TextsRead → PartedAnswer
encode_parted None = whole not_text
encode_parted (Some t) = if is_good (calls_answer t.file).verdict then whole (calls_answer t.file) else apart (calls_answer t.file)

-- The listing of a program, and what is told of a program.
use Rattle.std.specs.Prelude.{◌≡◌, ◌⊎◌, ℕ, ◌+◌, ◌-◌, ◌<◌, ◌≤◌, ◌==◌, max, nat_le, nat_lt, Bool, List, [], ◌∷◌, ◌++◌, length, take, replicate, codes, decimal, Option, Some, None, MatchBool, if◌then◌else◌}
use Rattle.std.specs.List.{concat}
use Rattle.insn.specs.declared.instruction.Form.{Form}
use Rattle.insn.specs.declared.instruction.TheConstants.{MAX_SLOTS}
use Rattle.insn.specs.Layout.{slot_count, size}
use Rattle.asm.specs.Text.{line_text}
use Rattle.maps.specs.declared.shapes.Shape.{Shape}
use Rattle.maps.specs.Shapes.{AreShapesSupported}
use Rattle.maps.specs.declared.shapes.TheConstants.{MOST_ARG_LEN}
use Rattle.verifier.specs.declared.refusal.Refused.{Refused}
use Rattle.verifier.specs.declared.refusal.VerifyFault.{VerifyFault}
use Rattle.verifier.specs.Numbers.{fault_number}
use Rattle.verifier.specs.Signature.{Signature, signature}
use Rattle.verifier.specs.Verdict.{lowest_refusal, verdict}
use Rattle.loader.specs.Grammar.{ProgramLine}
use Rattle.loader.specs.Spelling.{mode_word}
use Rattle.explain.specs.declared.programs.Subject.{Subject}
use Rattle.explain.specs.Slots.{told_upto}
use Rattle.explain.specs.Told.{Adds, BeginsWith}

-- ---- the line of an instruction

-- the blanks before a number that stands at the right of four columns
abbrev pub margin : ℕ → List ℕ
margin n = if nat_lt n 10 then codes "   " else if nat_lt n 100 then codes "  " else if nat_lt n 1000 then codes " " else []

-- nothing where nothing is told; else that, from the 25th column after the instruction's first on
abbrev pub aside : ℕ → List ℕ → List ℕ
aside columns [] = []
aside columns told = concat (codes " " ∷ replicate (24 - columns) 32 ∷ told ∷ [])

-- the slot of an instruction, its line as `dis` writes it, and at its end what is told there
pub record IsLine (slot : ℕ) (i : Form) (told line : List ℕ) : Type 0 where
  pub words : List ℕ
  pub disassembled : line_text i ≡ words ++ codes "\n"
  pub whole : line ≡ concat (margin slot ∷ decimal slot ∷ codes "  " ∷ words ∷ aside (length words) told ∷ codes "\n" ∷ [])

-- the lines of these instructions, of which the first begins at this slot, with what is told at each slot
abbrev pub Lists : (ℕ → List ℕ) → ℕ → List Form → List ℕ → Type 0
Lists told slot [] text = text ≡ []
Lists told slot (i ∷ is) text =
    (line : List ℕ) × (rest : List ℕ) × (text ≡ line ++ rest) × IsLine slot i (told slot) line × Lists told (slot + slot_count i) is rest

-- ---- what is told of a program

-- a program as a line of a manifest names it
abbrev pub line_of : Subject → ProgramLine
line_of s = record { name = s.name.now; mode = s.mode; arg_len = s.arg_len; file = s.file.now }

abbrev pub byte_word : ℕ → List ℕ
byte_word n = if n == 1 then codes " byte" else codes " bytes"

-- the head of a listing: the program's name, its line, whether it may change maps, how long its argument is, and its file
abbrev pub head_text : ℕ → ProgramLine → List ℕ
head_text n p =
    concat
    (codes "program " ∷ p.name ∷ codes ": line " ∷ decimal n ∷ codes ", " ∷ mode_word p.mode ∷ codes ", argument " ∷ decimal p.arg_len ∷ byte_word p.arg_len ∷ codes ", "
    ∷ p.file ∷ codes "\n" ∷ [])

abbrev pub instruction_word : ℕ → List ℕ
instruction_word n = if n == 1 then codes " more instruction)\n" else codes " more instructions)\n"

-- how many instructions are not listed
abbrev pub left_text : ℕ → List ℕ
left_text n = if n == 0 then [] else concat (codes "      (" ∷ decimal n ∷ instruction_word n ∷ [])

-- under which rule a program is refused, and where
abbrev pub refusal_text : Refused → List ℕ
refusal_text e = concat (codes "      V" ∷ decimal (fault_number e.why) ∷ codes " at slot " ∷ decimal e.slot ∷ codes "." ∷ [])

-- the last slot that is listed of a program with this refusal by kinds and this verdict, of the slots of both the higher one; none where the
-- program is listed to its end
abbrev pub last_listed : Option Refused → Option Refused → Option ℕ
last_listed (Some kinds) (Some e) = Some (max kinds.slot e.slot)
last_listed None (Some e) = None
last_listed kinds None = None

-- so many instructions are those that begin up to this slot: each of them does, and the next one doesn't
pub record BeginUpto (p : List Form) (last count : ℕ) : Type 0 where
  pub each : (k : ℕ) → k < count → size (take k p) ≤ last
  pub enough : (length p ≤ count) ⊎ (last < size (take count p))

-- so many instructions are listed: those up to the last slot, or all
abbrev pub AreListed : List Form → Option ℕ → ℕ → Type 0
AreListed p None count = length p ≤ count
AreListed p (Some last) count = BeginUpto p last count

-- the listing of a program with this refusal by kinds and this verdict: the lines of its first instructions, and how many are left
pub record IsListing (p : List Form) (kinds verdict : Option Refused) (text : List ℕ) : Type 0 where
  pub count : ℕ
  pub lines : List ℕ
  pub listed : Lists (told_upto p kinds) 0 (take count p) lines
  pub upto : AreListed p (last_listed kinds verdict) count
  pub whole : text ≡ lines ++ left_text (length p - count)

-- such a listing stands behind what stood there
abbrev pub AddsListing : List Form → Option Refused → Option Refused → List ℕ → List ℕ → Type 0
AddsListing p kinds verdict old new = size p ≤ MAX_SLOTS → Adds (IsListing p kinds verdict) old new

-- the rule is one of the structure: V1 to V5
abbrev pub is_structural : VerifyFault → Bool
is_structural why = nat_le (fault_number why) 5

-- a refusal by kinds: under which rule and where, and then the way there
abbrev pub TellsKinds : Refused → List ℕ → Type 0
TellsKinds e text = BeginsWith (refusal_text e ++ codes " The way: ") text

-- the refusal by kinds of a program whose structure is refused, if it has one
abbrev pub TellsSecond : Option Refused → List ℕ → Type 0
TellsSecond None text = text ≡ []
TellsSecond (Some kinds) text = TellsKinds kinds text

-- a refusal of the structure: under which rule and where, on lines of its own what is wrong, and behind these the refusal by kinds
pub record TellsStructure (e : Refused) (kinds : Option Refused) (text : List ℕ) : Type 0 where
  pub advice : List ℕ
  pub second : List ℕ
  pub whole : text ≡ concat (refusal_text e ∷ codes "\n      " ∷ advice ∷ codes "\n" ∷ second ∷ [])
  pub by_kinds : TellsSecond kinds second

-- why a program with this refusal by kinds and this verdict is refused: nothing where it is accepted
abbrev pub IsReason : Option Refused → Option Refused → List ℕ → Type 0
IsReason kinds None text = text ≡ []
IsReason kinds (Some e) text = MatchBool (is_structural e.why) (TellsStructure e kinds text) (TellsKinds e text)

-- the refusal of a program by kinds alone, whatever its structure
abbrev pub kinds_refusal : List Form → Signature → Option Refused
kinds_refusal p l = lowest_refusal p l (size p)

-- what is told of a program with this signature: its listing, and why it is refused
pub record Tells (p : List Form) (l : Signature) (text : List ℕ) : Type 0 where
  pub listing : List ℕ
  pub reason : List ℕ
  pub lists : IsListing p (kinds_refusal p l) (verdict p l) listing
  pub refuses : IsReason (kinds_refusal p l) (verdict p l) reason
  pub whole : text ≡ listing ++ reason

-- what is told of the program of the line with this number, for these maps: which one it is, and this of it
abbrev pub TellsOf : ℕ → ProgramLine → List Shape → List Form → List ℕ → Type 0
TellsOf n p shapes program text = (told : List ℕ) × (text ≡ head_text n p ++ told) × Tells program (signature shapes p.arg_len p.mode) told

-- what a program is checked for
abbrev pub signature_of : Subject → Signature
signature_of s = signature s.shapes.now s.arg_len s.mode

-- the verdict on a program
abbrev pub verdict_on : Subject → Option Refused
verdict_on s = verdict s.program.now (signature_of s)

-- a store may have such maps, and such an argument
pub record FitsStore (s : Subject) : Type 0 where
  pub shapes : AreShapesSupported s.shapes.now
  pub argument : s.arg_len ≤ MOST_ARG_LEN

-- and the program has at most 4,096 slots
pub record CanBeJudged (s : Subject) : Type 0 where
  pub shapes : AreShapesSupported s.shapes.now
  pub argument : s.arg_len ≤ MOST_ARG_LEN
  pub few : size s.program.now ≤ MAX_SLOTS

-- what is told of a program
abbrev pub Explains : Subject → List ℕ → Type 0
Explains s text = TellsOf s.line (line_of s) s.shapes.now s.program.now text

-- what is told of a program with more slots: which one it is, and why it is refused. None of its instructions is listed
pub record ExplainsLong (s : Subject) (text : List ℕ) : Type 0 where
  pub reason : List ℕ
  pub refuses : IsReason None (verdict_on s) reason
  pub whole : text ≡ head_text s.line (line_of s) ++ reason

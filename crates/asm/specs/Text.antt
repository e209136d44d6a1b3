-- The canonical text of a program: a line an instruction, its word and its operands.
use Rattle.std.specs.Prelude.{ℕ, ℤ, pos, negsuc, List, [], ◌∷◌, ◌++◌, codes, decimal}
use Rattle.std.specs.Fmt.{signed_decimal}
use Rattle.std.specs.List.{flat_map}
use Rattle.insn.specs.declared.instruction.Source.{Source}
use Rattle.insn.specs.declared.instruction.Source.TheVariants.{Reg, Imm}
use Rattle.insn.specs.declared.instruction.Form.{Form}
use Rattle.insn.specs.declared.instruction.Form.TheVariants.{Alu, Neg, MovSx, Swap, Load, Store, Imm64, MapRef, Ja, Branch, Call, Exit}
use Rattle.asm.specs.declared.words.Mnemonic.{Mnemonic}
use Rattle.asm.specs.declared.words.Mnemonic.TheVariants as words
use Rattle.asm.specs.Words.{word_of}

-- what the word says of an instruction
abbrev pub mnemonic : Form → Mnemonic
mnemonic (Alu w64 op dst src) = words.Alu w64 op
mnemonic (Neg w64 dst) = words.Neg w64
mnemonic (MovSx w64 bits dst src) = words.MovSx w64
mnemonic (Swap order bits dst) = words.Swap order bits
mnemonic (Load size signed dst src off) = words.Load size signed
mnemonic (Store size dst off (Imm imm)) = words.StoreImm size
mnemonic (Store size dst off (Reg src)) = words.StoreReg size
mnemonic (Imm64 dst value) = words.Imm64
mnemonic (MapRef dst index) = words.MapRef
mnemonic (Ja long by) = words.Ja long
mnemonic (Branch w64 cond dst src off) = words.Branch w64 cond
mnemonic (Call id) = words.Call
mnemonic Exit = words.Exit

-- r0 to r10
abbrev pub register : ℕ → List ℕ
register r = codes "r" ++ decimal r

-- a register or an immediate
abbrev pub source : Source → List ℕ
source (Reg r) = register r
source (Imm imm) = signed_decimal imm

-- a number with its sign, also +
abbrev pub with_sign : ℤ → List ℕ
with_sign (pos n) = codes "+" ++ decimal n
with_sign (negsuc n) = signed_decimal (negsuc n)

-- RFC 9669, section 5: a base register and an offset
abbrev pub address : ℕ → ℤ → List ℕ
address base off = codes "[" ++ (register base ++ (with_sign off ++ codes "]"))

-- the operands of an instruction
abbrev pub operands : Form → List (List ℕ)
operands (Alu w64 op dst src) = register dst ∷ source src ∷ []
operands (Neg w64 dst) = register dst ∷ []
operands (MovSx w64 bits dst src) = register dst ∷ register src ∷ decimal bits ∷ []
operands (Swap order bits dst) = register dst ∷ []
operands (Load size signed dst src off) = register dst ∷ address src off ∷ []
operands (Store size dst off src) = address dst off ∷ source src ∷ []
operands (Imm64 dst value) = register dst ∷ decimal value ∷ []
operands (MapRef dst index) = register dst ∷ signed_decimal index ∷ []
operands (Ja long by) = with_sign by ∷ []
operands (Branch w64 cond dst src off) = register dst ∷ source src ∷ with_sign off ∷ []
operands (Call id) = signed_decimal id ∷ []
operands Exit = []

-- a text with two operands after it, and with three
abbrev pub with_two : List ℕ → List ℕ → List ℕ → List ℕ
with_two text first second = (text ++ (codes " " ++ first)) ++ (codes ", " ++ second)

abbrev pub with_three : List ℕ → List ℕ → List ℕ → List ℕ → List ℕ
with_three text first second third = with_two text first second ++ (codes ", " ++ third)

-- operands behind a word: a space before the first, a comma and a space before each other
abbrev pub operand_text : List (List ℕ) → List ℕ
operand_text [] = []
operand_text (o ∷ os) = codes " " ++ (o ++ flat_map (λ o. codes ", " ++ o) os)

-- the line of an instruction
abbrev pub line_text : Form → List ℕ
line_text i = word_of (mnemonic i) ++ (operand_text (operands i) ++ codes "\n")

-- the canonical text of a program
unfoldable pub text_of : List Form → List ℕ
text_of p = flat_map line_text p

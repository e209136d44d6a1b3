-- The words of instructions.
use Rattle.std.specs.Prelude.{◌≡◌, ◌⊎◌, ℕ, Bool, true, false, List, [], ◌∷◌, ◌++◌, codes, decimal, Option, Some, None, if◌then◌else◌}
use Rattle.std.specs.Str.{bytes_eq}
use Rattle.insn.specs.declared.instruction.Operation.{Operation}
use Rattle.insn.specs.declared.instruction.Operation.TheVariants.{Add, Sub, Mul, Div, Or, And, Lsh, Rsh, Mod, Xor, Mov, Arsh, Sdiv, Smod}
use Rattle.insn.specs.declared.instruction.Condition.{Condition}
use Rattle.insn.specs.declared.instruction.Condition.TheVariants.{Jeq, Jgt, Jge, Jset, Jne, Jsgt, Jsge, Jlt, Jle, Jslt, Jsle}
use Rattle.insn.specs.declared.instruction.Order.{Order}
use Rattle.insn.specs.declared.instruction.Order.TheVariants.{Little, Big, Always}
use Rattle.insn.specs.declared.instruction.Size.{Size}
use Rattle.insn.specs.declared.instruction.Size.TheVariants.{Word, Half, Byte, Double}
use Rattle.insn.specs.Encoding.{MayLoad}
use Rattle.asm.specs.declared.words.Mnemonic.{Mnemonic}
use Rattle.asm.specs.declared.words.Mnemonic.TheVariants.{Alu, Neg, MovSx, Swap, Load, StoreImm, StoreReg, Imm64, MapRef, Ja, Branch, Call, Exit}
use Rattle.asm.specs.declared.words.TheConstants.{WORDS}

-- RFC 9669, section 4.1
abbrev pub operation_word : Operation → List ℕ
operation_word Add = codes "add"
operation_word Sub = codes "sub"
operation_word Mul = codes "mul"
operation_word Div = codes "div"
operation_word Or = codes "or"
operation_word And = codes "and"
operation_word Lsh = codes "lsh"
operation_word Rsh = codes "rsh"
operation_word Mod = codes "mod"
operation_word Xor = codes "xor"
operation_word Mov = codes "mov"
operation_word Arsh = codes "arsh"
operation_word Sdiv = codes "sdiv"
operation_word Smod = codes "smod"

-- RFC 9669, section 4.3
abbrev pub condition_word : Condition → List ℕ
condition_word Jeq = codes "jeq"
condition_word Jgt = codes "jgt"
condition_word Jge = codes "jge"
condition_word Jset = codes "jset"
condition_word Jne = codes "jne"
condition_word Jsgt = codes "jsgt"
condition_word Jsge = codes "jsge"
condition_word Jlt = codes "jlt"
condition_word Jle = codes "jle"
condition_word Jslt = codes "jslt"
condition_word Jsle = codes "jsle"

-- RFC 9669, section 4.2
abbrev pub order_word : Order → List ℕ
order_word Little = codes "le"
order_word Big = codes "be"
order_word Always = codes "swap"

-- RFC 9669, section 5: 4, 2, 1 or 8 bytes
abbrev pub size_letters : Size → List ℕ
size_letters Word = codes "w"
size_letters Half = codes "h"
size_letters Byte = codes "b"
size_letters Double = codes "dw"

-- the bits that arithmetic works on
abbrev pub width : Bool → List ℕ
width false = codes "32"
width true = codes "64"

-- the classes JMP32 and JMP
abbrev pub jump_width : Bool → List ℕ
jump_width false = codes "32"
jump_width true = []

-- a load that extends the sign
abbrev pub sign_letter : Bool → List ℕ
sign_letter false = []
sign_letter true = codes "s"

-- a jump by imm
abbrev pub long_width : Bool → List ℕ
long_width false = []
long_width true = codes "32"

-- the word of an instruction
abbrev pub word_of : Mnemonic → List ℕ
word_of (Alu w64 op) = operation_word op ++ width w64
word_of (Neg w64) = codes "neg" ++ width w64
word_of (MovSx w64) = codes "movsx" ++ width w64
word_of (Swap order bits) = order_word order ++ decimal bits
word_of (Load size signed) = codes "ldx" ++ (sign_letter signed ++ size_letters size)
word_of (StoreImm size) = codes "st" ++ size_letters size
word_of (StoreReg size) = codes "stx" ++ size_letters size
word_of Imm64 = codes "lddw"
word_of MapRef = codes "ldmap"
word_of (Ja long) = codes "ja" ++ long_width long
word_of (Branch w64 cond) = condition_word cond ++ jump_width w64
word_of Call = codes "call"
word_of Exit = codes "exit"

-- ---- the table

-- what a word says, by rows of the table
abbrev pub meaning_in : {R : Type 0} → (R → List ℕ) → List (R × Mnemonic) → List ℕ → Option Mnemonic
meaning_in spelled [] word = None
meaning_in spelled (row ∷ rows) word = if bytes_eq (spelled row.0) word then Some row.1 else meaning_in spelled rows word

-- what a word says
unfoldable pub meaning_of : List ℕ → Option Mnemonic
meaning_of word = meaning_in (λ text. text.now) WORDS word

-- how many operands stand behind a word
abbrev pub operand_count : Mnemonic → ℕ
operand_count Exit = 0
operand_count (Neg w64) = 1
operand_count (Swap order bits) = 1
operand_count (Ja long) = 1
operand_count Call = 1
operand_count (MovSx w64) = 3
operand_count (Branch w64 cond) = 3
operand_count _ = 2

-- there is a word that says this
abbrev pub HasWord : Mnemonic → Type 0
HasWord (Swap order bits) = ((bits ≡ 16) ⊎ (bits ≡ 32)) ⊎ (bits ≡ 64)
HasWord (Load size signed) = MayLoad size signed
HasWord _ = Unit {0}

-- a row is spelled as the word of what it says
abbrev pub IsSpelled : {R : Type 0} → (R → List ℕ) → R × Mnemonic → Type 0
IsSpelled spelled row = spelled row.0 ≡ word_of row.1

-- some row says this
abbrev pub IsSaid : {R : Type 0} → List (R × Mnemonic) → Mnemonic → Type 0
IsSaid [] m = ⊥
IsSaid (row ∷ rows) m = (row.1 ≡ m) ⊎ IsSaid rows m

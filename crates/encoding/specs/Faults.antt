-- What a refusal says.
use Rattle.std.specs.Prelude.{◌≡◌, ℕ, List, ◌++◌, codes, decimal, Result, Err}
use Rattle.encoding.specs.declared.kinds.Kind.{Kind}
use Rattle.encoding.specs.declared.kinds.Kind.TheVariants as kinds
use Rattle.encoding.specs.declared.faults.Wanted.{Wanted}
use Rattle.encoding.specs.declared.faults.Wanted.TheVariants as wanted
use Rattle.encoding.specs.declared.faults.LineFault.{LineFault}
use Rattle.encoding.specs.declared.faults.EncodeRefusal.{EncodeRefusal}
use Rattle.encoding.specs.declared.faults.EncodeError.{EncodeError}
use Rattle.encoding.specs.declared.faults.EncodeError.TheVariants.{NoMemory, Refused}

-- a value of this kind, in words
abbrev pub kind_text : Kind → List ℕ
kind_text kinds.U8 = codes "a number from 0 to 255"
kind_text kinds.U16 = codes "a number from 0 to 65535"
kind_text kinds.U32 = codes "a number from 0 to 4294967295"
kind_text kinds.U64 = codes "a number from 0 to 18446744073709551615"
kind_text kinds.S8 = codes "a number from -128 to 127"
kind_text kinds.S16 = codes "a number from -32768 to 32767"
kind_text kinds.S32 = codes "a number from -2147483648 to 2147483647"
kind_text kinds.S64 = codes "a number from -9223372036854775808 to 9223372036854775807"
kind_text kinds.Str = codes "a text between quotation marks"
kind_text kinds.Hex = codes "pairs of hexadecimal digits"

-- what was to stand where a line is wrong, in words
abbrev pub wanted_text : Wanted → List ℕ
wanted_text wanted.LineEnd = codes "a line of at most 512 bytes"
wanted_text wanted.Name = codes "a name: 1 to 32 of a-z, 0-9, _ and -, the first a letter"
wanted_text wanted.Kind = codes "u8, u16, u32, u64, s8, s16, s32, s64, str or hex, and a colon"
wanted_text (wanted.Value kind) = kind_text kind
wanted_text wanted.Room = codes "an argument of at most 64 bytes"

-- at this column that was to stand
abbrev pub fault : ℕ → Wanted → LineFault
fault column w = record { column = column; wanted = w }

-- the first place that is wrong, and what was to stand there
abbrev pub refusal_line : EncodeRefusal → List ℕ
refusal_line e =
    codes "line " ++ (decimal e.line ++ (codes " column " ++ (decimal e.fault.column ++ (codes ": wanted " ++ (wanted_text e.fault.wanted ++ codes "\n")))))

abbrev pub no_memory : EncodeError
no_memory = NoMemory

-- memory ran out, or this reading refuses so
abbrev pub Fails : {Y : Type 0} → EncodeError → Result Y EncodeRefusal → Type 0
Fails NoMemory read = Unit {0}
Fails (Refused e) read = read ≡ Err e

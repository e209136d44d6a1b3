-- What a line of the script says of the line of the text that it comes from, and which numbers the texts of values say.
use Rattle.std.specs.Prelude.{◌≡◌, ◌⊎◌, ◌↔◌, ℕ, ◌<◌, ◌≤◌, ◌^◌, ◌*◌, true, ℤ, pos, neg_ℤ, List, [], ◌++◌, length, Some, Ok, codes}
use Rattle.std.specs.List.{AllZip, concat}
use Rattle.std.specs.Str.Parse.{digits_value}
use Rattle.byteorder.specs.Endian.{little_number, twos_complement}
use Rattle.hex.specs.Hex.{IsBytes}
use Rattle.text.specs.declared.lines.LineKind.TheVariants as line_kinds
use Rattle.text.specs.Digits.{field_bytes}
use Rattle.text.specs.Fields.{split_at_space}
use Rattle.text.specs.Lines.{lines_of, kind_of}
use Rattle.text.specs.Words.{is_name}
use Rattle.encoding.specs.declared.arguments.TheConstants.{ARGUMENT_BYTES}
use Rattle.encoding.specs.declared.kinds.Kind.{Kind}
use Rattle.encoding.specs.Encoded.{script_line, call_line, encoded_text}
use Rattle.encoding.specs.Laws.{IsSize, IsSignedOf}
use Rattle.encoding.specs.Values.{are_digits, kind_named, number_bytes, number_of, signed_bytes, spelled, unsigned_bytes}
use Rattle.encoding.specs.Words.{words_of}

-- ---- lines

-- a value: the name of a kind, a colon, and a field that spells these bytes as that kind
pub record IsValue (word bytes : List ℕ) : Type 0 where
  pub kind : Kind
  pub name : List ℕ
  pub field : List ℕ
  pub split : word ≡ name ++ (codes ":" ++ field)
  pub named : kind_named name ≡ Some kind
  pub value : spelled kind field ≡ Some bytes

-- a name alone, or a name and values behind a space
abbrev pub IsNameAndValues : List ℕ → List ℕ → List (List ℕ) → Type 0
IsNameAndValues line name values = ((line ≡ name) × (values ≡ [])) ⊎ ((rest : List ℕ) × (line ≡ name ++ (codes " " ++ rest)) × (values ≡ words_of rest))

-- the line calls the program of this name, with the bytes of its values one behind the other
pub record CallsWith (line name argument : List ℕ) : Type 0 where
  pub good_name : is_name name ≡ true
  pub values : List (List ℕ)
  pub fields : IsNameAndValues line name values
  pub parts : List (List ℕ)
  pub each : AllZip IsValue values parts
  pub joined : argument ≡ concat parts
  pub few : length argument ≤ ARGUMENT_BYTES

-- a line of a script is a name, a space, and a field that says these bytes
pub record IsCallLine (line name argument : List ℕ) : Type 0 where
  pub kind : kind_of line ≡ line_kinds.Words
  pub digits : List ℕ
  pub fields : split_at_space line ≡ Some (name, digits)
  pub argument_is : field_bytes digits ≡ Some argument

-- what was written is the call of the line
pub record IsCallOf (line written : List ℕ) : Type 0 where
  pub name : List ℕ
  pub argument : List ℕ
  pub calls : CallsWith line name argument
  pub text : written ≡ script_line name argument
  pub read : IsCallLine written name argument

-- so it is of each line of bytes that is read as a call
abbrev pub CallsAreWritten : Type 0
CallsAreWritten = (line written : List ℕ) → IsBytes line → call_line line ≡ Ok written → IsCallOf line written

-- an empty line and a comment stay as they are, and of any other line its call is written
abbrev pub IsWrittenAs : List ℕ → List ℕ → Type 0
IsWrittenAs line written = ((kind_of line ≡ line_kinds.Comment) × (written ≡ line)) ⊎ IsCallOf line written

-- line N of the script is what is written of line N of the text
abbrev pub LinesAreWritten : Type 0
LinesAreWritten = (text script : List ℕ) → IsBytes text → encoded_text text ≡ Ok script → AllZip IsWrittenAs (lines_of text) (lines_of script)

-- ---- numbers

-- some digits of this radix, whose number is below 2^64
pub record AreDigits (radix : ℕ) (digits : List ℕ) (n : ℕ) : Type 0 where
  pub some : 0 < length digits
  pub each : are_digits radix digits ≡ true
  pub value : digits_value radix digits ≡ n
  pub small : n < 2 ^ 64

-- decimal digits, or 0x and hexadecimal digits
abbrev pub SpellsMagnitude : ℕ → List ℕ → Type 0
SpellsMagnitude n field = AreDigits 10 field n ⊎ ((digits : List ℕ) × (field ≡ codes "0x" ++ digits) × AreDigits 16 digits n)

-- the digits of `SpellsMagnitude`, or - and such digits for the negative number
abbrev pub SpellsNumber : ℤ → List ℕ → Type 0
SpellsNumber z field =
    ((n : ℕ) × (z ≡ pos n) × SpellsMagnitude n field) ⊎ ((n : ℕ) × (rest : List ℕ) × (z ≡ neg_ℤ (pos n)) × (field ≡ codes "-" ++ rest) × SpellsMagnitude n rest)

-- a text says a number exactly where it is spelled so
abbrev pub NumbersAreSpelled : Type 0
NumbersAreSpelled = (field : List ℕ) (z : ℤ) → (number_of field ≡ Some z) ↔ SpellsNumber z field

-- these bytes of a field, the low one first, are the number that its text says, which so many bytes hold
pub record ReadsUnsigned (n : ℕ) (field bytes : List ℕ) : Type 0 where
  pub number : ℕ
  pub says : number_of field ≡ Some (pos number)
  pub small : number < 2 ^ (8 * n)
  pub count : length bytes ≡ n
  pub back : little_number n bytes ≡ number

pub record ReadsSigned (n : ℕ) (field bytes : List ℕ) : Type 0 where
  pub number : ℤ
  pub says : number_of field ≡ Some number
  pub small : IsSignedOf n number
  pub count : length bytes ≡ n
  pub back : twos_complement n (little_number n bytes) ≡ number

abbrev pub UnsignedAreReadBack : Type 0
UnsignedAreReadBack = (n : ℕ) (field bytes : List ℕ) → unsigned_bytes n field ≡ Some bytes → ReadsUnsigned n field bytes

abbrev pub SignedAreReadBack : Type 0
SignedAreReadBack = (n : ℕ) (field bytes : List ℕ) → IsSize n → signed_bytes n field ≡ Some bytes → ReadsSigned n field bytes

-- and each number that so many bytes hold has such bytes
abbrev pub UnsignedHaveBytes : Type 0
UnsignedHaveBytes = (n x : ℕ) (field : List ℕ) → number_of field ≡ Some (pos x) → x < 2 ^ (8 * n) → unsigned_bytes n field ≡ Some (number_bytes n (pos x))

abbrev pub SignedHaveBytes : Type 0
SignedHaveBytes = (n : ℕ) (z : ℤ) (field : List ℕ) → number_of field ≡ Some z → IsSignedOf n z → signed_bytes n field ≡ Some (number_bytes n z)

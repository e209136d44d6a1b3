-- What a line says is how it is spelled, and what is spelled so says that.
use Rattle.std.proofs.Common.{◌≡◌, ℕ, ◌^◌, ◌<◌, ◌≤◌, Bool, true, false, cond, ltb, List, ◌∷◌, ◌++◌, length, codes, bytes_eq, decimal, Some, refl, sym, ap, ap₂, ◌∙◌, subst, arith, lit<}
use Rattle.std.specs.Str.{all_ascii_digits}
use Rattle.std.proofs.lemmas.Bool.{le-leb, le-ltb}
use Rattle.std.proofs.lemmas.Bool.Decides.{nat_tests}
use Rattle.std.proofs.lemmas.Fmt.{digits_decimal, length-decimal-le}
use Rattle.std.proofs.lemmas.List.{length-append}
use Rattle.hex.specs.Hex.{IsBytes, encode_lower, lower_digits}
use Rattle.hex.proofs.HexLemmas.{length-encode_with}
use Rattle.maps.specs.declared.shapes.TheConstants.{MOST_VALUE_BYTES}
use Rattle.verifier.specs.declared.refusal.Mode.{Mode}
use Rattle.verifier.specs.declared.refusal.Mode.TheVariants.{Update, Read}
use Rattle.text.specs.declared.digits.TheConstants.{FIELD_BYTES}
use Rattle.text.specs.Fields.{split_at_space, is_space, has_no_space}
use Rattle.text.specs.Words.{number_of, number_within}
use Rattle.text.proofs.Export.{own, numerals_are_decimals, steps, unless, split_from, split_to}
use Rattle.loader.specs.Grammar.{mode_of}
use Rattle.loader.specs.declared.installed.TheConstants.{MOST_LONG}
use Rattle.loader.specs.Installed.{most_argument, most_bytes}
use Rattle.loader.specs.Spelling.{mode_word}
use Rattle.loader.proofs.Export.{no_space_from, no_space_in_number, no_space_in_mode, mode_to, within, mode_from, word_is}
use Rattle.dumps.specs.declared.lines.TheConstants.{DUMP_LINE_BYTES}
use Rattle.dumps.specs.Grammar.{EntryLine, ProgramLine, Meaning, Entry, Program, is_lower_digit, lower_bytes, entry_meaning, program_meaning, words_meaning, line_meaning}
use Rattle.dumps.specs.Dumping.{entry_text, program_text, text_of}
use Rattle.dumps.proofs.LowerHex.{lower_from, lower_to, lower_all}

-- ---- a line that says something

-- the line's keys, values and programs are bytes, and a program is within its limits, where it may have `long` bytes
abbrev pub IsBound : ℕ → Meaning → Type 0
IsBound long (Entry e) = IsBytes e.key × IsBytes e.value
IsBound long (Program p) = (p.arg_len ≤ most_argument long) × IsBytes p.bytes × (length p.bytes ≤ most_bytes long)

abbrev IsSpelled : ℕ → List ℕ → Meaning → Type 0
IsSpelled long line m = (line ≡ text_of m) × IsBound long m

entry_from : (long : ℕ) (map text : List ℕ) (m : Meaning) → entry_meaning map text ≡ Some m → IsSpelled long (map ++ 32 ∷ text) m
unfolding entry_meaning
entry_from long map text m e =
    let field = steps (split_at_space text) _ m e in
    let number = steps (number_of map) _ m field.2 in
    let key = steps (lower_bytes FIELD_BYTES field.0.0) _ m number.2 in
    let value = steps (lower_bytes MOST_VALUE_BYTES field.0.1) _ m key.2 in
    let is : Entry (record { map = number.0; key = key.0; value = value.0 }) ≡ m = cc in
    let key_hex = lower_from _ _ _ key.1 in
    let value_hex = lower_from _ _ _ value.1 in
    let rest : text ≡ encode_lower key.0 ++ 32 ∷ encode_lower value.0 = split_from text field.0 field.1 ∙ ap₂ (λ a b. a ++ 32 ∷ b) key_hex.0 value_hex.0 in
    let whole : map ++ 32 ∷ text ≡ decimal number.0 ++ 32 ∷ (encode_lower key.0 ++ 32 ∷ encode_lower value.0) =
    ap₂ (λ a b. a ++ 32 ∷ b) ((numerals_are_decimals map number.0).0 number.1).0 rest in
    subst (λ x. IsSpelled long (map ++ 32 ∷ text) x) is (whole, (key_hex.1, value_hex.1))

program_from : (long : ℕ) (text : List ℕ) (m : Meaning) → program_meaning long text ≡ Some m → IsSpelled long (codes "p " ++ text) m
unfolding program_meaning
program_from long text m e =
    let first = steps (split_at_space text) _ m e in
    let second = steps (split_at_space first.0.1) _ m first.2 in
    let mode = steps (mode_of first.0.0) _ m second.2 in
    let len = steps (number_within 0 (most_argument long) second.0.0) _ m mode.2 in
    let bytes = steps (lower_bytes (most_bytes long) second.0.1) _ m len.2 in
    let is : Program (record { mode = mode.0; arg_len = len.0; bytes = bytes.0 }) ≡ m = cc in
    let number = within 0 (most_argument long) second.0.0 len.0 len.1 in
    let hex = lower_from _ _ _ bytes.1 in
    let rest : first.0.1 ≡ decimal len.0 ++ 32 ∷ encode_lower bytes.0 =
    split_from first.0.1 second.0 second.1 ∙ ap₂ (λ a b. a ++ 32 ∷ b) number.0 hex.0 in
    let whole : text ≡ mode_word mode.0 ++ 32 ∷ (decimal len.0 ++ 32 ∷ encode_lower bytes.0) =
    split_from text first.0 first.1 ∙ ap₂ (λ a b. a ++ 32 ∷ b) (mode_from first.0.0 mode.0 mode.1) rest in
    subst (λ x. IsSpelled long (codes "p " ++ text) x) is (ap (λ u. codes "p " ++ u) whole, (number.1.1, hex.1, hex.2))

words_from : (long : ℕ) (line : List ℕ) (m : Meaning) → words_meaning long line ≡ Some m → IsSpelled long line m
unfolding words_meaning
words_from long line m e =
    let field = steps (split_at_space line) _ m e in
    by_letter field.0.0 field.0.1 (bytes_eq field.0.0 (codes "p")) field.2 (word_is _ _) (split_from line field.0 field.1)
  where
    by_letter : (w r : List ℕ) (p : Bool) → cond p (program_meaning long r) (entry_meaning w r) ≡ Some m → (p ≡ true → w ≡ codes "p") → line ≡ w ++ 32 ∷ r → IsSpelled long line m
    by_letter w r true e letter whole = subst (λ u. IsSpelled long u m) (sym (whole ∙ ap (λ u. u ++ 32 ∷ r) (letter refl))) (program_from long r m e)
    by_letter w r false e letter whole = subst (λ u. IsSpelled long u m) (sym whole) (entry_from long w r m e)

pub said : (long : ℕ) (line : List ℕ) (m : Meaning) → line_meaning long line ≡ Some m → IsSpelled long line m
unfolding line_meaning
said long line m e = words_from long line m (unless (ltb DUMP_LINE_BYTES (length line)) (words_meaning long line) m e).1

-- ---- a line that is spelled

pub record EntryFits (e : EntryLine) : Type 0 where
  pub map : e.map < 2 ^ 64
  pub key : IsBytes e.key
  pub key_some : 0 < length e.key
  pub key_few : length e.key ≤ 64
  pub value : IsBytes e.value
  pub value_some : 0 < length e.value
  pub value_few : length e.value ≤ MOST_VALUE_BYTES

pub record ProgramFits (long : ℕ) (p : ProgramLine) : Type 0 where
  pub argument : p.arg_len ≤ most_argument long
  pub bytes : IsBytes p.bytes
  pub some : 0 < length p.bytes
  pub few : length p.bytes ≤ most_bytes long
  pub limit : long ≤ MOST_LONG

abbrev pub Fits : ℕ → Meaning → Type 0
Fits long (Entry e) = EntryFits e
Fits long (Program p) = ProgramFits long p

lower_no_space : (b : ℕ) → is_lower_digit b ≡ true → is_space b ≡ false
lower_no_space b h = grind (arith, nat_tests)

plain_hex : (bytes : List ℕ) → IsBytes bytes → has_no_space (encode_lower bytes) ≡ true
plain_hex bytes are = no_space_from is_lower_digit lower_no_space (encode_lower bytes) (lower_all bytes are)

no_letter : (n : ℕ) → n < 2 ^ 64 → bytes_eq (decimal n) (codes "p") ≡ false
no_letter n lt = by_test (bytes_eq (decimal n) (codes "p")) (word_is (decimal n) (codes "p"))
  where
    by_test : (b : Bool) → (b ≡ true → decimal n ≡ codes "p") → b ≡ false
    by_test false is = refl
    by_test true is =
        let digits : all_ascii_digits (codes "p") ≡ true = subst (λ t. all_ascii_digits t ≡ true) (is refl) (digits_decimal own n lt) in
        absurd cc

pub digits_few : (n : ℕ) → n < 2 ^ 64 → length (decimal n) ≤ 20
digits_few n lt = length-decimal-le 20 n (lit< tt) (omega (arith, lt)) lt

entry_short : (e : EntryLine) → EntryFits e → length (entry_text e) ≤ DUMP_LINE_BYTES
entry_short e f =
    let key = length-encode_with lower_digits e.key in
    let value = length-encode_with lower_digits e.value in
    let rest = length-append (encode_lower e.key) (32 ∷ encode_lower e.value) in
    let whole = length-append (decimal e.map) (32 ∷ (encode_lower e.key ++ 32 ∷ encode_lower e.value)) in
    omega (arith, digits_few e.map f.map, key, value, rest, whole, f.key_few, f.value_few)

pub entry_to : (long : ℕ) (e : EntryLine) → EntryFits e → line_meaning long (entry_text e) ≡ Some (Entry e)
unfolding line_meaning words_meaning entry_meaning
entry_to long e f =
    rw (
      le-ltb DUMP_LINE_BYTES (length (entry_text e)) (entry_short e f),
      split_to (decimal e.map) (encode_lower e.key ++ 32 ∷ encode_lower e.value) (no_space_in_number e.map f.map),
      no_letter e.map f.map,
      split_to (encode_lower e.key) (encode_lower e.value) (plain_hex e.key f.key),
      (numerals_are_decimals (decimal e.map) e.map).1 (refl, f.map),
      lower_to FIELD_BYTES e.key f.key f.key_some (omega (arith, f.key_few)),
      lower_to MOST_VALUE_BYTES e.value f.value f.value_some f.value_few,
    ) refl

within_to : (most n : ℕ) → n ≤ most → n < 2 ^ 64 → number_within 0 most (decimal n) ≡ Some n
unfolding number_within
within_to most n le small = rw ((numerals_are_decimals (decimal n) n).1 (refl, small), le-leb 0 n (omega arith), le-leb n most le) refl

pub argument_small : (long : ℕ) (p : ProgramLine) → ProgramFits long p → p.arg_len < 2 ^ 64
argument_small long p f = omega (arith, f.argument, f.limit)

pub word_few : (m : Mode) → length (mode_word m) ≤ 6
word_few Update = omega arith
word_few Read = omega arith

program_short : (long : ℕ) (p : ProgramLine) → ProgramFits long p → length (program_text p) ≤ DUMP_LINE_BYTES
program_short long p f =
    let hex = length-encode_with lower_digits p.bytes in
    let rest = length-append (decimal p.arg_len) (32 ∷ encode_lower p.bytes) in
    let whole = length-append (mode_word p.mode) (32 ∷ (decimal p.arg_len ++ 32 ∷ encode_lower p.bytes)) in
    omega (arith, digits_few p.arg_len (argument_small long p f), hex, rest, whole, word_few p.mode, f.few, f.limit)

pub program_to : (long : ℕ) (p : ProgramLine) → ProgramFits long p → line_meaning long (program_text p) ≡ Some (Program p)
unfolding line_meaning words_meaning program_meaning
program_to long p f =
    let behind = decimal p.arg_len ++ 32 ∷ encode_lower p.bytes in
    let small = argument_small long p f in
    let letter : split_at_space (codes "p" ++ 32 ∷ (mode_word p.mode ++ 32 ∷ behind)) ≡ Some (codes "p", mode_word p.mode ++ 32 ∷ behind) = split_to (codes "p") _ refl in
    rw (
      le-ltb DUMP_LINE_BYTES (length (program_text p)) (program_short long p f),
      letter,
      split_to (mode_word p.mode) behind (no_space_in_mode p.mode),
      split_to (decimal p.arg_len) (encode_lower p.bytes) (no_space_in_number p.arg_len small),
      mode_to p.mode,
      within_to (most_argument long) p.arg_len f.argument small,
      lower_to (most_bytes long) p.bytes f.bytes f.some f.few,
    ) refl

pub spelled_says : (long : ℕ) (m : Meaning) → Fits long m → line_meaning long (text_of m) ≡ Some m
spelled_says long (Entry e) f = entry_to long e f
spelled_says long (Program p) f = program_to long p f

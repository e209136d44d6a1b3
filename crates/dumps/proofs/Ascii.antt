-- What a state is dumped as is UTF-8: each of its bytes is ASCII.
use Rattle.std.proofs.Common.{◌≡◌, ℕ, zero, suc, ◌+◌, ◌/◌, ◌%◌, ◌<◌, Bool, true, false, cond, ltb, eqb, List, [], ◌∷◌, ◌++◌, decimal, codes, refl, arith}
use Rattle.std.specs.Prelude.{slice_index}
use Rattle.std.specs.Fmt.{digit_glyph, digits_onto, digits}
use Rattle.std.specs.List.{flat_map, list_all}
use Rattle.std.specs.Str.{IsAscii, IsUtf8}
use Rattle.std.proofs.lemmas.Bool.{and_parts, ltb-true}
use Rattle.std.proofs.lemmas.Str.{IsUtf8-append, IsUtf8-from_ascii}
use Rattle.std.proofs.lemmas.Str.Ascii.{IsAscii-nil, IsAscii-cons}
use Rattle.hex.specs.Hex.{lower_digits, encode_with, encode_lower}
use Rattle.verifier.specs.declared.refusal.Mode.{Mode}
use Rattle.verifier.specs.declared.refusal.Mode.TheVariants.{Update, Read}
use Rattle.loader.specs.Spelling.{mode_word}
use Rattle.loader.specs.StoreState.{StoreState}
use Rattle.dumps.specs.Grammar.{EntryLine, ProgramLine, Meaning, Entry, Program}
use Rattle.dumps.specs.Dumping.{entry_text, program_text, text_of, lines_of, dump}

ascii_by_test : (bs : List ℕ) → list_all (λ b. ltb b 128) bs ≡ true → IsAscii bs
ascii_by_test [] h = IsAscii-nil
ascii_by_test (b ∷ bs) h =
    let parts = and_parts (ltb b 128) (list_all (λ b. ltb b 128) bs) h in
    IsAscii-cons b bs (ltb-true b 128 parts.0) (ascii_by_test bs parts.1)

-- ---- numbers

either : (test : Bool) (xs ys : List ℕ) → IsAscii xs → IsAscii ys → IsAscii (cond test xs ys)
either true xs ys x y = x
either false xs ys x y = y

glyph_is_low : (d : ℕ) → d < 10 → digit_glyph false d < 128
glyph_is_low d h = by (ltb d 10)
  where
    by : (test : Bool) → cond test (48 + d) (87 + d) < 128
    by true = omega arith
    by false = omega arith

onto_is_ascii : (k n : ℕ) (rest : List ℕ) → IsAscii rest → IsAscii (digits_onto k 10 false n rest)
onto_is_ascii zero n rest h = h
onto_is_ascii (suc k) n rest h =
    let more = IsAscii-cons (digit_glyph false (n % 10)) rest (glyph_is_low (n % 10) (omega arith)) h in
    either (eqb (n / 10) 0) _ _ more (onto_is_ascii k (n / 10) _ more)

number_is_text : (n : ℕ) → IsUtf8 (decimal n)
unfolding digits
number_is_text n = IsUtf8-from_ascii (decimal n) (onto_is_ascii 64 n [] IsAscii-nil)

-- ---- bytes

hex_is_ascii : (bytes : List ℕ) → IsAscii (encode_lower bytes)
unfolding encode_with
hex_is_ascii [] = IsAscii-nil
hex_is_ascii (b ∷ bytes) =
    let digit = ascii_by_test lower_digits refl in
    IsAscii-cons (slice_index lower_digits (b / 16)) (slice_index lower_digits (b % 16) ∷ encode_lower bytes) (digit (b / 16))
    (IsAscii-cons (slice_index lower_digits (b % 16)) (encode_lower bytes) (digit (b % 16)) (hex_is_ascii bytes))

hex_is_text : (bytes : List ℕ) → IsUtf8 (encode_lower bytes)
hex_is_text bytes = IsUtf8-from_ascii (encode_lower bytes) (hex_is_ascii bytes)

-- ---- lines

word_is_text : (word : List ℕ) → list_all (λ b. ltb b 128) word ≡ true → IsUtf8 word
word_is_text word h = IsUtf8-from_ascii word (ascii_by_test word h)

mode_is_text : (mode : Mode) → IsUtf8 (mode_word mode)
mode_is_text Update = word_is_text (codes "update") refl
mode_is_text Read = word_is_text (codes "read") refl

-- texts with a space between them
spaced : (front back : List ℕ) → IsUtf8 front → IsUtf8 back → IsUtf8 (front ++ (codes " " ++ back))
spaced front back f b = IsUtf8-append front (codes " " ++ back) f (IsUtf8-append (codes " ") back (word_is_text (codes " ") refl) b)

entry_is_text : (e : EntryLine) → IsUtf8 (entry_text e)
entry_is_text e =
    spaced (decimal e.map) (encode_lower e.key ++ (codes " " ++ encode_lower e.value)) (number_is_text e.map)
    (spaced (encode_lower e.key) (encode_lower e.value) (hex_is_text e.key) (hex_is_text e.value))

program_is_text : (p : ProgramLine) → IsUtf8 (program_text p)
program_is_text p =
    let sized : IsUtf8 (decimal p.arg_len ++ (codes " " ++ encode_lower p.bytes)) = spaced (decimal p.arg_len) (encode_lower p.bytes) (number_is_text p.arg_len) (hex_is_text p.bytes) in
    IsUtf8-append (codes "p ") (mode_word p.mode ++ (codes " " ++ (decimal p.arg_len ++ (codes " " ++ encode_lower p.bytes)))) (word_is_text (codes "p ") refl)
    (spaced (mode_word p.mode) (decimal p.arg_len ++ (codes " " ++ encode_lower p.bytes)) (mode_is_text p.mode) sized)

line_is_text : (m : Meaning) → IsUtf8 (text_of m ++ codes "\n")
line_is_text (Entry e) = IsUtf8-append (entry_text e) (codes "\n") (entry_is_text e) (word_is_text (codes "\n") refl)
line_is_text (Program p) = IsUtf8-append (program_text p) (codes "\n") (program_is_text p) (word_is_text (codes "\n") refl)

lines_are_text : (ms : List Meaning) → IsUtf8 (flat_map (λ l. text_of l ++ codes "\n") ms)
lines_are_text [] = word_is_text [] refl
lines_are_text (m ∷ ms) = IsUtf8-append (text_of m ++ codes "\n") (flat_map (λ l. text_of l ++ codes "\n") ms) (line_is_text m) (lines_are_text ms)

pub dump_is_text : (s : StoreState) → IsUtf8 (dump s)
unfolding dump
dump_is_text s = lines_are_text (lines_of s)

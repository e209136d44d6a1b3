-- What stands in the fields of a line: bytes of ASCII, none a line feed, and how many there are at most.
use Rattle.std.proofs.Common.{◌≡◌, ◌∙◌, ℕ, ◌+◌, ◌-◌, ◌*◌, ◌^◌, ◌<◌, ◌≤◌, Bool, true, false, cond, eqb, leb, ltb, ◌&&◌, List, [], ◌∷◌, ◌++◌, length, codes, bytes_eq, decimal, Some, None, is_some, refl, sym, ap, subst, arith}
use Rattle.std.specs.List.{list_all}
use Rattle.std.specs.Str.{IsUtf8}
use Rattle.std.proofs.lemmas.Bool.{and_parts, and_from, leb-true, le-leb, ltb-true, lt-ltb, false≢true}
use Rattle.std.proofs.lemmas.Bool.Decides.{nat_tests}
use Rattle.std.proofs.lemmas.List.Folds.{list_all-append}
use Rattle.std.proofs.lemmas.List.Sums.{AllPass-from_list_all, list_all-from_AllPass}
use Rattle.std.proofs.lemmas.Str.{IsUtf8-from_ascii}
use Rattle.std.proofs.lemmas.Str.Ascii.{IsAscii-from_all}
use Rattle.hex.specs.Hex.{decode_of, is_hex_digit}
use Rattle.hex.proofs.HexLemmas.{decode_of-ok}
use Rattle.verifier.specs.declared.refusal.Mode.{Mode}
use Rattle.verifier.specs.declared.refusal.Mode.TheVariants.{Update, Read}
use Rattle.text.specs.declared.words.TheConstants.{NAME_BYTES}
use Rattle.text.specs.Digits.{good, field_bytes}
use Rattle.text.specs.Words.{is_name_byte, is_name}
use Rattle.text.proofs.Export.{HasNoFeed, good_from}
use Rattle.loader.specs.Spelling.{mode_word}
use Rattle.loader.proofs.Export.{word_is}
use Rattle.scripts.proofs.Export.{digits_of_number}

-- a byte of ASCII that is no line feed
abbrev pub is_printed : ℕ → Bool
is_printed b = leb 32 b && ltb b 128

abbrev pub ArePrinted : List ℕ → Type 0
ArePrinted t = list_all is_printed t ≡ true

pub both_printed : (xs ys : List ℕ) → ArePrinted xs → ArePrinted ys → ArePrinted (xs ++ ys)
both_printed xs ys e f = list_all-append is_printed xs ys ∙ and_from (list_all is_printed xs) (list_all is_printed ys) e f

-- with a space between them
pub spaced_printed : (xs ys : List ℕ) → ArePrinted xs → ArePrinted ys → ArePrinted (xs ++ 32 ∷ ys)
spaced_printed xs ys e f = both_printed xs (32 ∷ ys) e f

-- what passes a test that only printed bytes pass
passing : (p : ℕ → Bool) → ((b : ℕ) → p b ≡ true → is_printed b ≡ true) → (t : List ℕ) → list_all p t ≡ true → ArePrinted t
passing p some [] h = refl
passing p some (b ∷ t) h = let both = and_parts (p b) (list_all p t) h in rw (some b both.0, passing p some t both.1) refl

in_range : (low high b : ℕ) → 32 ≤ low → high < 128 → (leb low b && leb b high) ≡ true → is_printed b ≡ true
in_range low high b above below h =
    let both = and_parts (leb low b) (leb b high) h in
    let first = leb-true low b both.0 in
    let second = leb-true b high both.1 in
    and_from (leb 32 b) (ltb b 128) (le-leb 32 b (omega (arith, above, first))) (lt-ltb b 128 (omega (arith, below, second)))

-- ---- numbers, names, modes

pub number_printed : (n : ℕ) → n < 2 ^ 64 → ArePrinted (decimal n)
number_printed n small = passing (λ b. leb 48 b && leb b 57) (λ b h. in_range 48 57 b (omega arith) (omega arith) h) (decimal n) (digits_of_number n small)

name_byte_printed : (b : ℕ) → is_name_byte b ≡ true → is_printed b ≡ true
name_byte_printed b h = grind (arith, nat_tests)

pub name_printed : (t : List ℕ) → is_name t ≡ true → ArePrinted t
unfolding is_name
name_printed t h = let last = and_parts _ (list_all is_name_byte t) h in passing is_name_byte name_byte_printed t last.1

pub name_short : (t : List ℕ) → is_name t ≡ true → length t ≤ 32
unfolding is_name
name_short t h =
    let last = and_parts _ (list_all is_name_byte t) h in
    let letter = and_parts _ _ last.0 in
    let size = and_parts (ltb 0 (length t)) (leb (length t) NAME_BYTES) letter.0 in
    leb-true (length t) NAME_BYTES size.1

pub mode_printed : (m : Mode) → ArePrinted (mode_word m)
mode_printed Update = refl
mode_printed Read = refl

-- ---- digits

hex_printed : (b : ℕ) → is_hex_digit b ≡ true → is_printed b ≡ true
hex_printed b h = by (leb 65 b && leb b 70) refl (leb 97 b && leb b 102) refl (leb 48 b && leb b 57) refl h
  where
    by : (u : Bool) → (leb 65 b && leb b 70) ≡ u → (l : Bool) → (leb 97 b && leb b 102) ≡ l → (d : Bool) → (leb 48 b && leb b 57) ≡ d
        → is_some (cond u (Some (b - 55)) (cond l (Some (b - 87)) (cond d (Some (b - 48)) None))) ≡ true → is_printed b ≡ true
    by true is l low d ten h = in_range 65 70 b (omega arith) (omega arith) is
    by false is true low d ten h = in_range 97 102 b (omega arith) (omega arith) low
    by false is false low true ten h = in_range 48 57 b (omega arith) (omega arith) ten
    by false is false low false ten h = absurd (false≢true h)

-- HEX has two digits for a byte, or is -
abbrev pub IsHexOf : List ℕ → List ℕ → Type 0
IsHexOf bytes digits = ArePrinted digits × (length digits ≤ 2 * length bytes + 1)

pub hex_is : (digits bytes : List ℕ) → field_bytes digits ≡ Some bytes → IsHexOf bytes digits
unfolding field_bytes
hex_is digits bytes e = by (bytes_eq digits (codes "-")) (eqb (length digits) 0) e (word_is digits (codes "-"))
  where
    by : (none empty : Bool) → cond none (Some []) (cond empty None (good (decode_of digits))) ≡ Some bytes → (none ≡ true → digits ≡ codes "-") → IsHexOf bytes digits
    by true empty e f = subst (IsHexOf bytes) (sym (f refl)) (refl, omega arith)
    by false true e f = absurd cc
    by false false e f =
        let ok = decode_of-ok digits bytes (good_from (decode_of digits) bytes e) in
        let long = ok.2 in
        (passing is_hex_digit hex_printed digits (list_all-from_AllPass is_hex_digit digits ok.1), omega (arith, long))

-- ---- lines

pub no_feed : (t : List ℕ) → ArePrinted t → HasNoFeed t
no_feed t h i below is = false≢true (sym (ap is_printed is) ∙ AllPass-from_list_all is_printed t h i 0 below)

pub is_utf8_line : (t : List ℕ) → ArePrinted t → IsUtf8 t
is_utf8_line t h = IsUtf8-from_ascii t (IsAscii-from_all t (λ k d below. ltb-true _ 128 (and_parts (leb 32 _) (ltb _ 128) (AllPass-from_list_all is_printed t h k d below)).1))

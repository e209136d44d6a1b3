-- The fields of a line, read and spelled.
use Rattle.std.proofs.Common.{◌≡◌, ℕ, Bool, true, false, not, cond, leb, ltb, eqb, ◌&&◌, List, [], ◌∷◌, ◌++◌, length, codes, bytes_eq, decimal, Option, Some, None, refl, sym, ap, subst, ◌∙◌, arith}
use Rattle.std.specs.Prelude.{option_map}
use Rattle.std.specs.List.{list_all}
use Rattle.std.proofs.lemmas.Bool.{and_parts, eqb-true, false≢true}
use Rattle.std.proofs.lemmas.Bool.Decides.{nat_tests}
use Rattle.std.proofs.lemmas.Fmt.{digits_decimal}
use Rattle.std.proofs.lemmas.Option.{same_Some}
use Rattle.std.proofs.lemmas.List.Sums.{list_all-from_AllPass}
use Rattle.hex.specs.Hex.{decode_of, is_hex_digit}
use Rattle.hex.proofs.HexLemmas.{decode_of-ok}
use Rattle.text.specs.Fields.{is_space, has_no_space, split_at_space}
use Rattle.text.specs.Words.{is_lower, is_name, number_of}
use Rattle.text.specs.Digits.{good, field_bytes}
use Rattle.text.proofs.Export.{own, numerals_are_decimals, steps, split_from, split_to, good_from}
use Rattle.loader.specs.Grammar.{mode_of}
use Rattle.loader.specs.Spelling.{mode_word}
use Rattle.loader.proofs.Export.{no_space_from, no_space_in_number, no_space_in_name, no_space_in_mode, mode_to, mode_from, word_is}
use Rattle.oplog.specs.Calls.{NewProgram}
use Rattle.scripts.specs.Script.{ProgramKey, Named, Numbered, KeyedCall, program_key, keyed_call, program_fields, new_program}
use Rattle.scripts.specs.LineSpelling.{IsNumber, SpellsBytes, IsKey, key_text}
use Rattle.encoding.proofs.Export.{mapped}

-- ---- no field has a space

hex_no_space : (b : ℕ) → is_hex_digit b ≡ true → is_space b ≡ false
hex_no_space b h = by (is_space b) refl
  where
    by : (s : Bool) → is_space b ≡ s → s ≡ false
    by false e = refl
    by true e = absurd (false≢true (sym (ap is_hex_digit (eqb-true b 32 e)) ∙ h))

pub digits_of_number : (n : ℕ) → IsNumber n → list_all (λ b. leb 48 b && leb b 57) (decimal n) ≡ true
digits_of_number n lt = digits_decimal own n lt

pub key_plain : (key : ProgramKey) → IsKey key → has_no_space (key_text key) ≡ true
key_plain (Named name) is = no_space_in_name name is
key_plain (Numbered k) is = no_space_in_number k is

pub bytes_plain : (digits bytes : List ℕ) → SpellsBytes bytes digits → has_no_space digits ≡ true
unfolding field_bytes
bytes_plain digits bytes e = by (bytes_eq digits (codes "-")) (eqb (length digits) 0) e (word_is digits (codes "-"))
  where
    by : (none empty : Bool) → cond none (Some []) (cond empty None (good (decode_of digits))) ≡ Some bytes → (none ≡ true → digits ≡ codes "-") → has_no_space digits ≡ true
    by true empty e f = subst (λ t. has_no_space t ≡ true) (sym (f refl)) refl
    by false true e f = absurd cc
    by false false e f = no_space_from is_hex_digit hex_no_space digits (list_all-from_AllPass is_hex_digit digits (decode_of-ok digits bytes (good_from (decode_of digits) bytes e)).1)

has_space : (a b : List ℕ) → has_no_space (a ++ 32 ∷ b) ≡ false
has_space [] b = refl
has_space (x ∷ a) b = by (not (is_space x)) (has_space a b)
  where
    by : (s : Bool) → has_no_space (a ++ 32 ∷ b) ≡ false → (s && has_no_space (a ++ 32 ∷ b)) ≡ false
    by true e = e
    by false e = refl

-- two fields are no digits
pub two_no_bytes : (a b : List ℕ) → field_bytes (a ++ 32 ∷ b) ≡ None
two_no_bytes a b = by (field_bytes (a ++ 32 ∷ b)) refl
  where
    by : (o : Option (List ℕ)) → field_bytes (a ++ 32 ∷ b) ≡ o → o ≡ None
    by None e = refl
    by (Some bytes) e = absurd (false≢true (sym (has_space a b) ∙ bytes_plain (a ++ 32 ∷ b) bytes e))

-- ---- a number, a mode

pub number_from : (t : List ℕ) (n : ℕ) → number_of t ≡ Some n → (t ≡ decimal n) × IsNumber n
number_from t n e = (numerals_are_decimals t n).0 e

pub number_to : (n : ℕ) → IsNumber n → number_of (decimal n) ≡ Some n
number_to n lt = (numerals_are_decimals (decimal n) n).1 (refl, lt)

-- ---- a key

-- a numeral is no name
no_name : (t : List ℕ) → list_all (λ b. leb 48 b && leb b 57) t ≡ true → is_name t ≡ false
unfolding is_name
no_name [] h = refl
no_name (b ∷ t) h =
    let first = and_parts (leb 48 b && leb b 57) (list_all (λ b. leb 48 b && leb b 57) t) h in
    let other : is_lower b ≡ false = digit_no_lower b first.0 in
    rw other (off (ltb 0 (length (b ∷ t))) (leb (length (b ∷ t)) 32) _)
  where
    digit_no_lower : (b : ℕ) → (leb 48 b && leb b 57) ≡ true → is_lower b ≡ false
    digit_no_lower b h = grind (arith, nat_tests)

    off : (w x y : Bool) → w && x && false && y ≡ false
    off true true y = refl
    off true false y = refl
    off false x y = refl

pub key_from : (t : List ℕ) (key : ProgramKey) → program_key t ≡ Some key → (t ≡ key_text key) × IsKey key
unfolding program_key
key_from t key e = by (is_name t) refl e
  where
    by : (b : Bool) → is_name t ≡ b → cond b (Some (Named t)) (option_map Numbered (number_of t)) ≡ Some key → (t ≡ key_text key) × IsKey key
    by true is e = subst (λ k. (t ≡ key_text k) × IsKey k) (same_Some (Named t) key e) (refl, is)
    by false is e = let x = mapped Numbered (number_of t) key e in subst (λ k. (t ≡ key_text k) × IsKey k) x.2 (number_from t x.0 x.1)

pub key_to : (key : ProgramKey) → IsKey key → program_key (key_text key) ≡ Some key
unfolding program_key
key_to (Named name) is = let name_is : is_name name ≡ true = is in rw name_is refl
key_to (Numbered k) is = rw (no_name (decimal k) (digits_of_number k is), number_to k is) refl

-- ---- a call, a program

pub keyed_from : (t digits : List ℕ) (call : KeyedCall) → keyed_call t digits ≡ Some call → (t ≡ key_text call.key) × IsKey call.key × SpellsBytes call.argument digits
unfolding keyed_call
keyed_from t digits call e =
    let argument = steps (field_bytes digits) _ call e in
    let key = steps (program_key t) _ call argument.2 in
    let read = key_from t key.0 key.1 in
    subst (λ (c : KeyedCall). (t ≡ key_text c.key) × IsKey c.key × SpellsBytes c.argument digits) (same_Some _ call key.2) (read.0, read.1, argument.1)

pub keyed_to : (call : KeyedCall) (digits : List ℕ) → IsKey call.key → SpellsBytes call.argument digits → keyed_call (key_text call.key) digits ≡ Some call
unfolding keyed_call
keyed_to call digits is bytes = rw (bytes, key_to call.key is) refl

pub program_from : (word len digits : List ℕ) (new : NewProgram) → program_fields word len digits ≡ Some new
    → (word ≡ mode_word new.mode) × (len ≡ decimal new.arg_len) × IsNumber new.arg_len × SpellsBytes new.bytes digits
unfolding program_fields
program_from word len digits new e =
    let mode = steps (mode_of word) _ new e in
    let count = steps (number_of len) _ new mode.2 in
    let bytes = steps (field_bytes digits) _ new count.2 in
    let number = number_from len count.0 count.1 in
    subst (λ (p : NewProgram). (word ≡ mode_word p.mode) × (len ≡ decimal p.arg_len) × IsNumber p.arg_len × SpellsBytes p.bytes digits) (same_Some _ new bytes.2)
    (mode_from word mode.0 mode.1, number.0, number.1, bytes.1)

pub program_to : (new : NewProgram) (digits : List ℕ) → IsNumber new.arg_len → SpellsBytes new.bytes digits → program_fields (mode_word new.mode) (decimal new.arg_len) digits ≡ Some new
unfolding program_fields
program_to new digits lt bytes = rw (mode_to new.mode, number_to new.arg_len lt, bytes) refl

-- MODE ARGLEN HEX
pub new_from : (t : List ℕ) (new : NewProgram) → new_program t ≡ Some new
    → (digits : List ℕ) × (t ≡ mode_word new.mode ++ 32 ∷ (decimal new.arg_len ++ 32 ∷ digits)) × IsNumber new.arg_len × SpellsBytes new.bytes digits
unfolding new_program
new_from t new e =
    let first = steps (split_at_space t) _ new e in
    let second = steps (split_at_space first.0.1) _ new first.2 in
    let read = program_from first.0.0 second.0.0 second.0.1 new second.2 in
    (second.0.1, split_from t first.0 first.1 ∙ (λ i. read.0 i ++ 32 ∷ ((split_from first.0.1 second.0 second.1 ∙ ap (λ w. w ++ 32 ∷ second.0.1) read.1) i)), read.2, read.3)

pub new_to : (new : NewProgram) (digits : List ℕ) → IsNumber new.arg_len → SpellsBytes new.bytes digits → new_program (mode_word new.mode ++ 32 ∷ (decimal new.arg_len ++ 32 ∷ digits)) ≡ Some new
unfolding new_program
new_to new digits lt bytes =
    rw (split_to (mode_word new.mode) (decimal new.arg_len ++ 32 ∷ digits) (no_space_in_mode new.mode), split_to (decimal new.arg_len) digits (no_space_in_number new.arg_len lt)) (program_to new digits lt bytes)

-- The argument of a line of bytes is bytes.
use Rattle.std.proofs.Common.{◌≡◌, inl, inr, ℕ, zero, suc, ◌-◌, ◌<◌, Bool, true, false, cond, eqb, ltb, ℤ, List, [], ◌∷◌, ◌++◌, length, take, drop, Some, Result, Ok, Err, refl, sym, ap, ◌∙◌, subst, arith}
use Rattle.std.specs.Int.{byte_at, bytes_low_first}
use Rattle.std.specs.List.{AllZip, concat, list_all, onto_first}
use Rattle.std.proofs.lemmas.Bool.{and_parts, and_from, ltb-true, lt-ltb}
use Rattle.std.proofs.lemmas.List.{take-append-drop}
use Rattle.std.proofs.lemmas.Option.{cond_some}
use Rattle.hex.specs.declared.error.FromHexError.{FromHexError}
use Rattle.hex.specs.Hex.{IsBytes, decode_of}
use Rattle.hex.proofs.HexLemmas.{decode_of-ok}
use Rattle.text.specs.Digits.{good}
use Rattle.text.specs.Lines.{lines_of}
use Rattle.text.proofs.Export.{steps, unless}
use Rattle.encoding.specs.Calls.{CallsAreWritten, CallsWith, IsCallLine, IsNameAndValues, IsValue}
use Rattle.encoding.proofs.Calls as Calls
use Rattle.encoding.proofs.Calls.{calls_are_read}
use Rattle.encoding.specs.declared.kinds.Kind.{Kind}
use Rattle.encoding.specs.declared.kinds.Kind.TheVariants.{U8, U16, U32, U64, S8, S16, S32, S64, Str, Hex}
use Rattle.encoding.specs.Values.{bits_of, inside, number_bytes, number_of, number_within, quoted, spelled}
use Rattle.encoding.specs.Words.{ends_word, is_open, words_from}

-- ---- bytes

abbrev pub is_byte : ℕ → Bool
is_byte b = ltb b 256

abbrev pub are : List ℕ → Bool
are xs = list_all is_byte xs

pub are_from : (xs : List ℕ) → IsBytes xs → are xs ≡ true
are_from [] h = refl
are_from (x ∷ xs) h = and_from (is_byte x) (are xs) (lt-ltb x 256 (h 0)) (are_from xs (λ k. h (suc k)))

pub are_to : (xs : List ℕ) → are xs ≡ true → IsBytes xs
are_to [] h i = omega arith
are_to (x ∷ xs) h zero = ltb-true x 256 (and_parts (is_byte x) (are xs) h).0
are_to (x ∷ xs) h (suc i) = are_to xs (and_parts (is_byte x) (are xs) h).1 i

are_both : (xs ys : List ℕ) → are xs ≡ true → are ys ≡ true → are (xs ++ ys) ≡ true
are_both [] ys p q = q
are_both (x ∷ xs) ys p q = let parts = and_parts (is_byte x) (are xs) p in and_from (is_byte x) (are (xs ++ ys)) parts.0 (are_both xs ys parts.1 q)

are_parts : (xs ys : List ℕ) → are (xs ++ ys) ≡ true → (are xs ≡ true) × (are ys ≡ true)
are_parts [] ys p = (refl, p)
are_parts (x ∷ xs) ys p =
    let parts = and_parts (is_byte x) (are (xs ++ ys)) p in
    let rest = are_parts xs ys parts.1 in
    (and_from (is_byte x) (are xs) parts.0 rest.0, rest.1)

pub are_taken : (n : ℕ) (xs : List ℕ) → are xs ≡ true → (are (take n xs) ≡ true) × (are (drop n xs) ≡ true)
are_taken n xs h = are_parts (take n xs) (drop n xs) (ap are (take-append-drop n xs) ∙ h)

-- ---- values

small : (i x : ℕ) → byte_at i x < 256
small zero x = omega arith
small (suc i) x = omega arith

pub low_bytes : (i n x : ℕ) → are (bytes_low_first i n x) ≡ true
low_bytes i zero x = refl
low_bytes i (suc n) x = and_from (is_byte (byte_at i x)) (are (bytes_low_first (suc i) n x)) (lt-ltb (byte_at i x) 256 (small i x)) (low_bytes (suc i) n x)

number : (n : ℕ) (low high : ℤ) (field bytes : List ℕ) → number_within n low high field ≡ Some bytes → are bytes ≡ true
unfolding number_within
number n low high field bytes h =
    let read = steps (number_of field) _ bytes h in
    let parts = cond_some _ (number_bytes n read.0) bytes read.2 in
    subst (λ x. are x ≡ true) parts.1 (low_bytes 0 n (bits_of read.0))

text : (field bytes : List ℕ) → are field ≡ true → quoted field ≡ Some bytes → are bytes ≡ true
unfolding quoted
text field bytes all h =
    let parts = unless _ (Some (inside field)) bytes h in
    let same : inside field ≡ bytes = (let e = parts.1 in cc) in
    subst (λ x. are x ≡ true) same (are_taken (length field - 1 - 1) (drop 1 field) (are_taken 1 field all).1).0

read_hex : (field bytes : List ℕ) → good (decode_of field) ≡ Some bytes → are bytes ≡ true
read_hex field bytes h = are_from bytes (decode_of-ok field bytes (is_ok (decode_of field) h)).3
  where
    is_ok : (r : Result (List ℕ) FromHexError) → good r ≡ Some bytes → r ≡ Ok bytes
    is_ok (Ok x) h = cc
    is_ok (Err e) h = absurd cc

value : (kind : Kind) (field bytes : List ℕ) → are field ≡ true → spelled kind field ≡ Some bytes → are bytes ≡ true
unfolding spelled
value U8 field bytes all h = number 1 _ _ field bytes h
value U16 field bytes all h = number 2 _ _ field bytes h
value U32 field bytes all h = number 4 _ _ field bytes h
value U64 field bytes all h = number 8 _ _ field bytes h
value S8 field bytes all h = number 1 _ _ field bytes h
value S16 field bytes all h = number 2 _ _ field bytes h
value S32 field bytes all h = number 4 _ _ field bytes h
value S64 field bytes all h = number 8 _ _ field bytes h
value Str field bytes all h = text field bytes all h
value Hex field bytes all h = read_hex field bytes h

values : (words parts : List (List ℕ)) → list_all are words ≡ true → AllZip IsValue words parts → are (concat parts) ≡ true
values [] [] all each = refl
values [] (p ∷ parts) all each = absurd each
values (w ∷ words) [] all each = absurd each
values (w ∷ words) (p ∷ parts) all each =
    let bytes = and_parts (are w) (list_all are words) all in
    let v = each.0 in
    let split : are (v.name ++ 58 ∷ v.field) ≡ true = ap are (sym v.split) ∙ bytes.0 in
    let field : are v.field ≡ true = (are_parts (58 ∷ []) v.field (are_parts v.name (58 ∷ v.field) split).1).1 in
    are_both p (concat parts) (value v.kind v.field p field v.value) (values words parts bytes.1 each.1)

-- ---- words

first_word : (c : ℕ) (words : List (List ℕ)) → is_byte c ≡ true → list_all are words ≡ true → list_all are (onto_first c words) ≡ true
first_word c [] byte all = and_from (are (c ∷ [])) true (and_from (is_byte c) true byte refl) refl
first_word c (w ∷ words) byte all =
    let parts = and_parts (are w) (list_all are words) all in
    and_from (are (c ∷ w)) (list_all are words) (and_from (is_byte c) (are w) byte parts.0) parts.1

words_are : (before : Bool) (cs : List ℕ) → are cs ≡ true → list_all are (words_from before cs) ≡ true
words_are before [] h = refl
words_are before (c ∷ cs) h =
    let parts = and_parts (is_byte c) (are cs) h in
    by (ends_word before c) (words_are false cs parts.1) (first_word c (words_from (is_open before c) cs) parts.0 (words_are (is_open before c) cs parts.1))
  where
    by : (b : Bool) → list_all are (words_from false cs) ≡ true → list_all are (onto_first c (words_from (is_open before c) cs)) ≡ true
        → list_all are (cond b ([] ∷ words_from false cs) (onto_first c (words_from (is_open before c) cs))) ≡ true
    by true p q = p
    by false p q = q

fields : (line name : List ℕ) (words : List (List ℕ)) → are line ≡ true → IsNameAndValues line name words → list_all are words ≡ true
fields line name words h (inl f) = ap (list_all are) f.1
fields line name words h (inr f) =
    let split : are (name ++ 32 ∷ f.0) ≡ true = ap are (sym f.1) ∙ h in
    let rest : are f.0 ≡ true = (are_parts (32 ∷ []) f.0 (are_parts name (32 ∷ f.0) split).1).1 in
    ap (list_all are) f.2 ∙ words_are false f.0 rest

pub arguments_are_bytes : (line name argument : List ℕ) → IsBytes line → CallsWith line name argument → IsBytes argument
arguments_are_bytes line name argument bytes call =
    are_to argument (ap are call.joined ∙ values call.values call.parts (fields line name call.values (are_from line bytes) call.fields) call.each)

-- ---- lines

lines_are : (cs : List ℕ) → are cs ≡ true → list_all are (lines_of cs) ≡ true
lines_are [] h = refl
lines_are (c ∷ cs) h =
    let parts = and_parts (is_byte c) (are cs) h in
    by (eqb c 10) (lines_are cs parts.1) (first_word c (lines_of cs) parts.0 (lines_are cs parts.1))
  where
    by : (b : Bool) → list_all are (lines_of cs) ≡ true → list_all are (onto_first c (lines_of cs)) ≡ true → list_all are (cond b ([] ∷ lines_of cs) (onto_first c (lines_of cs))) ≡ true
    by true p q = p
    by false p q = q

pub bytes_of_lines : (text : List ℕ) → IsBytes text → list_all are (lines_of text) ≡ true
bytes_of_lines text bytes = lines_are text (are_from text bytes)

pub calls_are_written : CallsAreWritten
calls_are_written line written bytes h =
    let call = Calls.calls_are_written line written h in
    record {
      name = call.0;
      argument = call.1;
      calls = call.2;
      text = call.3;
      read = subst (λ w. IsCallLine w call.0 call.1) (sym call.3) (calls_are_read call.0 call.1 call.2.good_name (arguments_are_bytes line call.0 call.1 bytes call.2) call.2.few);
    }

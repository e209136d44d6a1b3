-- Line N of the script is what becomes of line N of the text.
use Rattle.std.proofs.Common.{append_assoc, inl, inr, ◌≡◌, ◌⊎◌, ℕ, zero, suc, ◌/◌, ◌%◌, Bool, true, false, not, cond, List, [], ◌∷◌, ◌++◌, get_or, codes, Result, Ok, Err, refl, sym, ap, ◌∙◌, subst, arith}
use Rattle.std.specs.Prelude.{◌==◌, nat_lt, IsAscii}
use Rattle.std.specs.List.{AllZip, list_all, onto_first}
use Rattle.std.specs.Str.{is_utf8}
use Rattle.std.proofs.lemmas.Str.{IsUtf8-from_ascii, is_utf8-from_IsUtf8}
use Rattle.std.proofs.lemmas.Bool.{and_parts, and_from, eq-eqb, ltb-true}
use Rattle.std.proofs.lemmas.Bool.Decides.{nat_tests}
use Rattle.hex.specs.Hex.{IsBytes, encode_lower, encode_with, lower_digits}
use Rattle.text.specs.declared.lines.LineKind.{LineKind}
use Rattle.text.specs.declared.lines.LineKind.TheVariants as line_kinds
use Rattle.text.specs.Lines.{lines_of, next_line, kind_of}
use Rattle.text.specs.Words.{is_name_byte}
use Rattle.text.proofs.Export.{HasNoFeed, lines_of-cut}
use Rattle.encoding.specs.declared.faults.LineFault.{LineFault}
use Rattle.encoding.specs.declared.faults.EncodeRefusal.{EncodeRefusal}
use Rattle.encoding.specs.Calls.{IsWrittenAs, LinesAreWritten}
use Rattle.encoding.specs.Encoded.{behind, call_line, digits_of, encoded, encoded_by, encoded_from, encoded_text, script_line}
use Rattle.encoding.proofs.ArgumentBytes.{are, are_to, bytes_of_lines, calls_are_written}
use Rattle.encoding.proofs.Calls as Calls
use Rattle.encoding.proofs.Calls.{name_parts}

-- no byte is a line feed
abbrev pub is_feedless : List ℕ → Bool
is_feedless text = list_all (λ c. not (c == 10)) text

pub no_feed : (xs : List ℕ) → is_feedless xs ≡ true → HasNoFeed xs
no_feed [] h i lt = absurd (omega (arith, lt))
no_feed (x ∷ xs) h zero lt = λ e. both (x == 10) (and_parts (not (x == 10)) (is_feedless xs) h).0 (eq-eqb x 10 e)
  where
    both : (b : Bool) → not b ≡ true → b ≡ true → ⊥
    both true n y = cc
    both false n y = cc
no_feed (x ∷ xs) h (suc i) lt = no_feed xs (and_parts (not (x == 10)) (is_feedless xs) h).1 i (omega (arith, lt))

-- the lines of a text have none
first_feedless : (c : ℕ) (lines : List (List ℕ)) → not (c == 10) ≡ true → list_all is_feedless lines ≡ true → list_all is_feedless (onto_first c lines) ≡ true
first_feedless c [] other all = and_from (is_feedless (c ∷ [])) true (and_from (not (c == 10)) true other refl) refl
first_feedless c (line ∷ lines) other all =
    let parts = and_parts (is_feedless line) (list_all is_feedless lines) all in
    and_from (is_feedless (c ∷ line)) (list_all is_feedless lines) (and_from (not (c == 10)) (is_feedless line) other parts.0) parts.1

pub lines_feedless : (text : List ℕ) → list_all is_feedless (lines_of text) ≡ true
lines_feedless [] = refl
lines_feedless (c ∷ cs) = by (c == 10) refl (lines_feedless cs)
  where
    by : (b : Bool) → (c == 10) ≡ b → list_all is_feedless (lines_of cs) ≡ true → list_all is_feedless (cond b ([] ∷ lines_of cs) (onto_first c (lines_of cs))) ≡ true
    by true e rest = rest
    by false e rest = first_feedless c (lines_of cs) (rw e refl) rest

-- what is so of each byte that a name has, of a space, of - and of each hexadecimal digit is so of each byte of a call
module _ (p : ℕ → Bool) (in_name : (c : ℕ) → is_name_byte c ≡ true → p c ≡ true) (none : p 0 ≡ true) (space : p 32 ≡ true) (dash : p 45 ≡ true) (table : list_all p lower_digits ≡ true) where
  all_joined : (xs ys : List ℕ) → list_all p xs ≡ true → list_all p ys ≡ true → list_all p (xs ++ ys) ≡ true
  all_joined [] ys h k = k
  all_joined (x ∷ xs) ys h k =
      let parts = and_parts (p x) (list_all p xs) h in
      and_from (p x) (list_all p (xs ++ ys)) parts.0 (all_joined xs ys parts.1 k)

  name_all : (name : List ℕ) → list_all is_name_byte name ≡ true → list_all p name ≡ true
  name_all [] h = refl
  name_all (c ∷ cs) h =
      let parts = and_parts (is_name_byte c) (list_all is_name_byte cs) h in
      and_from (p c) (list_all p cs) (in_name c parts.0) (name_all cs parts.1)

  in_table : (digits : List ℕ) (k : ℕ) → list_all p digits ≡ true → p (get_or digits k 0) ≡ true
  in_table [] k h = none
  in_table (c ∷ cs) zero h = (and_parts (p c) (list_all p cs) h).0
  in_table (c ∷ cs) (suc k) h = in_table cs k (and_parts (p c) (list_all p cs) h).1

  hex_all : (bytes : List ℕ) → list_all p (encode_lower bytes) ≡ true
  unfolding encode_with
  hex_all [] = refl
  hex_all (b ∷ bytes) =
      and_from (p (get_or lower_digits (b / 16) 0)) (list_all p (get_or lower_digits (b % 16) 0 ∷ encode_lower bytes)) (in_table lower_digits (b / 16) table)
      (and_from (p (get_or lower_digits (b % 16) 0)) (list_all p (encode_lower bytes)) (in_table lower_digits (b % 16) table) (hex_all bytes))

  digits_all : (bytes : List ℕ) → list_all p (digits_of bytes) ≡ true
  digits_all [] = and_from (p 45) true dash refl
  digits_all (b ∷ bytes) = hex_all (b ∷ bytes)

  call_all : (line written : List ℕ) → call_line line ≡ Ok written → list_all p written ≡ true
  call_all line written h =
      let call = Calls.calls_are_written line written h in
      let name = (name_parts call.0 call.2.good_name).each in
      rw call.3 (all_joined call.0 (32 ∷ digits_of call.1) (name_all call.0 name) (and_from (p 32) (list_all p (digits_of call.1)) space (digits_all call.1)))

-- so a call has no line feed
call_feedless : (line written : List ℕ) → call_line line ≡ Ok written → is_feedless written ≡ true
call_feedless = call_all (λ c. not (c == 10)) other refl refl refl refl
  where
    other : (c : ℕ) → is_name_byte c ≡ true → not (c == 10) ≡ true
    other c h = grind (arith, nat_tests)

-- and is ASCII
abbrev is_low : ℕ → Bool
is_low c = nat_lt c 128

low_ascii : (xs : List ℕ) → list_all is_low xs ≡ true → IsAscii xs
low_ascii [] h i = omega arith
low_ascii (x ∷ xs) h zero = ltb-true x 128 (and_parts (is_low x) (list_all is_low xs) h).0
low_ascii (x ∷ xs) h (suc i) = low_ascii xs (and_parts (is_low x) (list_all is_low xs) h).1 i

call_text : (line written : List ℕ) → call_line line ≡ Ok written → is_utf8 written ≡ true
call_text line written h = is_utf8-from_IsUtf8 written (IsUtf8-from_ascii written (low_ascii written (call_all is_low low refl refl refl refl line written h)))
  where
    low : (c : ℕ) → is_name_byte c ≡ true → is_low c ≡ true
    low c h = grind (arith, nat_tests)

-- the line of a script is the line itself or a call
pub line_or_call : (line written : List ℕ) → encoded line ≡ Ok written → (written ≡ line) ⊎ ((name : List ℕ) × (argument : List ℕ) × (written ≡ script_line name argument))
unfolding encoded
line_or_call line written h = by (kind_of line) h
  where
    by : (kind : LineKind) → encoded_by line kind ≡ Ok written → (written ≡ line) ⊎ ((name : List ℕ) × (argument : List ℕ) × (written ≡ script_line name argument))
    by line_kinds.TooLong h = absurd cc
    by line_kinds.Comment h = let same : line ≡ written = cc in inl (sym same)
    by line_kinds.Words h = let call = Calls.calls_are_written line written h in inr (call.0, call.1, call.3)

-- the line of a script is UTF-8 if the line is
pub line_text : (line written : List ℕ) → is_utf8 line ≡ true → encoded line ≡ Ok written → is_utf8 written ≡ true
unfolding encoded
line_text line written text h = by (kind_of line) h
  where
    by : (kind : LineKind) → encoded_by line kind ≡ Ok written → is_utf8 written ≡ true
    by line_kinds.TooLong h = absurd cc
    by line_kinds.Comment h = let same : line ≡ written = cc in subst (λ x. is_utf8 x ≡ true) same text
    by line_kinds.Words h = call_text line written h

pub line_feedless : (line written : List ℕ) → is_feedless line ≡ true → encoded line ≡ Ok written → is_feedless written ≡ true
unfolding encoded
line_feedless line written feedless h = by (kind_of line) h
  where
    by : (kind : LineKind) → encoded_by line kind ≡ Ok written → is_feedless written ≡ true
    by line_kinds.TooLong h = absurd cc
    by line_kinds.Comment h = let same : line ≡ written = cc in subst (λ x. is_feedless x ≡ true) same feedless
    by line_kinds.Words h = call_feedless line written h

-- ---- all lines

pub split_behind : (n : ℕ) (r : Result (List ℕ) LineFault) (later : Result (List ℕ) EncodeRefusal) (script : List ℕ) → behind n r later ≡ Ok script
    → (written : List ℕ) × (rest : List ℕ) × (r ≡ Ok written) × (later ≡ Ok rest) × (script ≡ written ++ 10 ∷ rest)
split_behind n (Err why) later script h = absurd cc
split_behind n (Ok written) (Err e) script h = absurd cc
split_behind n (Ok written) (Ok rest) script h =
    let same : (written ++ codes "\n") ++ rest ≡ script = cc in
    (written, rest, refl, refl, sym same ∙ append_assoc written (codes "\n") rest)

written_as : (line written : List ℕ) → IsBytes line → encoded line ≡ Ok written → IsWrittenAs line written
unfolding encoded
written_as line written bytes h = by (kind_of line) refl h
  where
    by : (kind : LineKind) → kind_of line ≡ kind → encoded_by line kind ≡ Ok written → IsWrittenAs line written
    by line_kinds.TooLong is h = absurd cc
    by line_kinds.Comment is h = inl (is, cc)
    by line_kinds.Words is h = inr (calls_are_written line written bytes h)

all_written : (n : ℕ) (lines : List (List ℕ)) (script : List ℕ) → list_all is_feedless lines ≡ true → list_all are lines ≡ true → encoded_from n lines ≡ Ok script → AllZip IsWrittenAs lines (lines_of script)
unfolding encoded_from
all_written n [] script all bytes h =
    let none : [] ≡ script = cc in
    subst (λ s. AllZip IsWrittenAs [] (lines_of s)) none tt
all_written n (line ∷ lines) script all bytes h =
    let parts = split_behind n (encoded line) (encoded_from (next_line n) lines) script h in
    let feedless = and_parts (is_feedless line) (list_all is_feedless lines) all in
    let are_bytes = and_parts (are line) (list_all are lines) bytes in
    let cut : lines_of script ≡ parts.0 ∷ lines_of parts.1 = ap lines_of parts.4 ∙ lines_of-cut parts.0 parts.1 (no_feed parts.0 (line_feedless line parts.0 feedless.0 parts.2)) in
    let rest = all_written (next_line n) lines parts.1 feedless.1 are_bytes.1 parts.3 in
    subst (AllZip IsWrittenAs (line ∷ lines)) (sym cut) (written_as line parts.0 (are_to line are_bytes.0) parts.2, rest)

pub lines_are_written : LinesAreWritten
unfolding encoded_text
lines_are_written text script bytes h = all_written 1 (lines_of text) script (lines_feedless text) (bytes_of_lines text bytes) h

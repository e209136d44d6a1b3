-- A line of a program behind its columns, and without them.
use Rattle.std.proofs.Common.{◌≡◌, ℕ, zero, suc, ◌+◌, ◌-◌, ◌/◌, ◌%◌, ◌<◌, ◌≤◌, Bool, true, false, not, List, [], ◌∷◌, ◌++◌, length, drop, get_or, codes, eqb, Option, Some, None, Result, Ok, Err, refl, sym, ap, ◌∙◌, append_assoc, arith}
use Rattle.std.specs.Prelude.{min}
use Rattle.std.specs.List.{list_all, flat_map, AllByRecursion}
use Rattle.std.specs.Option.{option_map_or}
use Rattle.std.specs.Fmt.{decimal}
use Rattle.std.proofs.lemmas.Bool.{and_parts, and_from}
use Rattle.std.proofs.lemmas.Fmt.{length-decimal-le}
use Rattle.std.proofs.lemmas.List.{append-nil, length-append, length-drop}
use Rattle.std.proofs.Math.Seq.{drop-append_seam}
use Rattle.hex.specs.Hex.{encode_lower, encode_with, lower_digits}
use Rattle.insn.specs.declared.instruction.Form.{Form}
use Rattle.insn.specs.Encoding.{HasEncoding, program_bytes}
use Rattle.insn.specs.Refusal as decoding
use Rattle.insn.specs.Refusal.{AreBytes}
use Rattle.insn.specs.Layout.{slot_count, size}
use Rattle.insn.specs.Decoded.{decoded}
use Rattle.insn.specs.declared.decoding.DecodeRefusal.{DecodeRefusal}
use Rattle.insn.proofs.Export.{read_is_spelled, are_bytes, size_more}
use Rattle.text.specs.Fields.{is_space, split_at_space}
use Rattle.text.specs.Lines.{lines_of}
use Rattle.text.specs.Digits.{spaced_bytes}
use Rattle.text.proofs.Export.{split_to, spaced_are_bytes}
use Rattle.asm.specs.Text.{mnemonic, operands, operand_text, line_text, text_of}
use Rattle.asm.specs.Words.{word_of}
use Rattle.asm.proofs.Export.{list_all-append, bare_line, decimal_feedless, line_feedless, cut_feedless}
use Rattle.engine.specs.Answer.{Answer}
use Rattle.engine.specs.declared.replies.Verdict.TheVariants as verdicts
use Rattle.console.specs.AssemblyAnswer.{hex_text, slot_column, slot_line, slots_text, disassembly}
use Rattle.console.specs.CheckAnswer.{good_or_refused}
use Rattle.console.specs.Columns.{without_columns, text_without_columns, SlotsAreColumns}

-- ---- digits

-- what holds of all digits, and of 0, holds of what is looked up
in_table : (test : ℕ → Bool) (table : List ℕ) (k : ℕ) → test 0 ≡ true → list_all test table ≡ true
    → test (get_or table k 0) ≡ true
in_table test [] k none h = none
in_table test (c ∷ cs) zero none h = (and_parts (test c) (list_all test cs) h).0
in_table test (c ∷ cs) (suc k) none h = in_table test cs k none (and_parts (test c) (list_all test cs) h).1

hex_all : (test : ℕ → Bool) (bytes : List ℕ) → test 0 ≡ true → list_all test lower_digits ≡ true
    → list_all test (encode_lower bytes) ≡ true
unfolding encode_with
hex_all test [] none h = refl
hex_all test (b ∷ bytes) none h =
    and_from (test (get_or lower_digits (b / 16) 0)) (list_all test (get_or lower_digits (b % 16) 0 ∷ encode_lower bytes)) (in_table test lower_digits (b / 16) none h)
    (and_from (test (get_or lower_digits (b % 16) 0)) (list_all test (encode_lower bytes)) (in_table test lower_digits (b % 16) none h) (hex_all test bytes none h))

-- ---- columns

abbrev is_no_feed : ℕ → Bool
is_no_feed c = not (eqb c 10)

abbrev HasNoFeed : List ℕ → Type 0
HasNoFeed xs = list_all is_no_feed xs ≡ true

-- the spaces before a number
abbrev pad : ℕ → List ℕ
pad slot = drop (min (length (decimal slot)) 4) (codes "    ")

short : (slot : ℕ) → slot < 10000 → length (decimal slot) ≤ 4
short slot lt = length-decimal-le 4 slot (omega arith) (omega arith) (omega arith)

six : (slot : ℕ) → slot < 10000 → length (slot_column slot) ≡ 6
six slot lt =
    let few = short slot lt in
    let spaces : length (pad slot) ≡ 4 - length (decimal slot) = omega (arith, length-drop (min (length (decimal slot)) 4) (codes "    "), few) in
    omega (arith, length-append (pad slot) (decimal slot ++ codes "  "), length-append (decimal slot) (codes "  "), spaces, few)

none_left : (k : ℕ) → HasNoFeed (drop k [])
none_left zero = refl
none_left (suc k) = refl

padded : (k : ℕ) → HasNoFeed (drop k (codes "    "))
padded zero = refl
padded (suc zero) = refl
padded (suc (suc zero)) = refl
padded (suc (suc (suc zero))) = refl
padded (suc (suc (suc (suc k)))) = none_left k

-- ---- one line

regrouped : (a b c d rest : List ℕ) → (a ++ (b ++ (c ++ (d ++ 10 ∷ [])))) ++ rest ≡ (a ++ (b ++ (c ++ d))) ++ 10 ∷ rest
regrouped a b c d rest = simp append_assoc

behind : (xs ys : List ℕ) (n : ℕ) → length xs ≡ n → drop n (xs ++ ys) ≡ ys
behind xs ys n e = ap (λ k. drop k (xs ++ ys)) (sym e) ∙ drop-append_seam xs ys

text_is : (i : Form) → line_text i ≡ bare_line i ++ codes "\n"
text_is i = sym (append_assoc (word_of (mnemonic i)) (operand_text (operands i)) (codes "\n"))

one_text : (i : Form) → text_of (i ∷ []) ≡ bare_line i ++ codes "\n"
unfolding text_of
one_text i = append-nil (line_text i) ∙ text_is i

module _ (slot : ℕ) (i : Form) (lt : slot < 10000) (h : HasEncoding i) where
  -- the line without its line feed
  abbrev columned : List ℕ
  columned = slot_column slot ++ (hex_text (i ∷ []) ++ (codes "  " ++ bare_line i))

  line_is : (rest : List ℕ) → slot_line slot i ++ rest ≡ columned ++ 10 ∷ rest
  line_is rest =
      ap (λ text. (slot_column slot ++ (hex_text (i ∷ []) ++ (codes "  " ++ text))) ++ rest) (one_text i)
      ∙ regrouped (slot_column slot) (hex_text (i ∷ [])) (codes "  ") (bare_line i) rest

  columned_passes : HasNoFeed columned
  columned_passes =
      list_all-append is_no_feed (slot_column slot) (hex_text (i ∷ []) ++ (codes "  " ++ bare_line i))
      (list_all-append is_no_feed (pad slot) (decimal slot ++ codes "  ") (padded (min (length (decimal slot)) 4))
      (list_all-append is_no_feed (decimal slot) (codes "  ") (decimal_feedless slot (omega arith)) refl))
      (list_all-append is_no_feed (hex_text (i ∷ [])) (codes "  " ++ bare_line i) (hex_all is_no_feed (program_bytes (i ∷ [])) refl refl)
      (list_all-append is_no_feed (codes "  ") (bare_line i) refl (line_feedless i h)))

  bare_is : without_columns columned ≡ bare_line i
  bare_is =
      let tail : List ℕ = hex_text (i ∷ []) ++ 32 ∷ 32 ∷ bare_line i in
      let cut : split_at_space (drop 6 columned) ≡ Some (hex_text (i ∷ []), 32 ∷ bare_line i) =
      ap split_at_space (behind (slot_column slot) tail 6 (six slot lt)) ∙ split_to (hex_text (i ∷ [])) (32 ∷ bare_line i) (hex_all (λ b. not (is_space b)) (program_bytes (i ∷ [])) refl refl) in
      ap (λ o. option_map_or (λ (cut : List ℕ × List ℕ). drop 1 cut.1) o columned) cut

-- ---- all lines

abbrev one : List ℕ → List ℕ
one line = without_columns line ++ codes "\n"

each_line : (slot : ℕ) (p : List Form) → AllByRecursion HasEncoding p → slot + size p ≤ 9999
    → flat_map one (lines_of (slots_text slot p)) ≡ text_of p
unfolding slots_text text_of
each_line slot [] h few = refl
each_line slot (i ∷ p) h few =
    let lt : slot < 10000 = omega (arith, few) in
    let rest = slots_text (slot + slot_count i) p in
    let more = each_line (slot + slot_count i) p h.1 (omega (arith, few, size_more i p)) in
    ap (λ text. flat_map one (lines_of text)) (line_is slot i lt h.0 rest)
    ∙ ap (flat_map one) (cut_feedless (columned slot i lt h.0) rest (columned_passes slot i lt h.0))
    ∙ ap (λ line. (line ++ codes "\n") ++ flat_map one (lines_of rest)) (bare_is slot i lt h.0)
    ∙ ap (λ text. (bare_line i ++ codes "\n") ++ text) more
    ∙ ap (λ text. text ++ flat_map line_text p) (sym (text_is i))

-- the line of a refusal, as `dis` writes it
abbrev decode_refused : DecodeRefusal → List ℕ
decode_refused e = codes "D" ++ (decimal (decoding.fault_number e.why) ++ (codes " slot " ++ (decimal e.slot ++ codes "\n")))

abbrev without : Answer → Answer
without a = record { text = text_without_columns a.verdict a.text; verdict = a.verdict }

pub slots_are_columns : SlotsAreColumns
slots_are_columns None = refl
slots_are_columns (Some t) = by (spaced_bytes t.file) refl
  where
    bad : Answer
    bad = record { text = codes "bad hex\n"; verdict = verdicts.Refused }

    on : (bytes : List ℕ) → AreBytes bytes → (r : Result (List Form) DecodeRefusal) → decoded bytes ≡ r
        → without (good_or_refused (slots_text 0) (decode_refused) r) ≡ good_or_refused text_of decode_refused r
    on bytes are (Err e) is = refl
    on bytes are (Ok p) is =
        let d = read_is_spelled bytes p are is in
        ap (λ (text : List ℕ). record { text = text; verdict = verdicts.Good }) (each_line 0 p d.each (omega (arith, d.few)))

    by : (o : Option (List ℕ)) → spaced_bytes t.file ≡ o
        → without (option_map_or (disassembly true) o bad) ≡ option_map_or (disassembly false) o bad
    by None is = refl
    by (Some bytes) is = on bytes (are_bytes bytes (spaced_are_bytes t.file bytes is)) (decoded bytes) refl

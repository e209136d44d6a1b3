-- What a line says, it says where a program may have more bytes.
use Rattle.std.proofs.Common.{◌≡◌, ℕ, ◌≤◌, Bool, true, false, cond, leb, ltb, ◌&&◌, ◌*◌, List, length, codes, bytes_eq, Option, Some, ap, ◌∙◌, arith}
use Rattle.std.specs.List.{list_all}
use Rattle.std.specs.Option.{option_and_then}
use Rattle.std.proofs.lemmas.Bool.{and_parts, le-leb, leb-true}
use Rattle.std.proofs.lemmas.Option.{cond_some}
use Rattle.text.specs.Digits.{field_bytes}
use Rattle.text.specs.Fields.{split_at_space}
use Rattle.text.specs.Words.{number_of, number_within}
use Rattle.text.proofs.Export.{if_true, steps, unless}
use Rattle.loader.specs.Grammar.{mode_of}
use Rattle.loader.specs.Installed.{most_argument, most_bytes}
use Rattle.dumps.specs.declared.lines.TheConstants.{DUMP_LINE_BYTES}
use Rattle.dumps.specs.Grammar.{Meaning, is_lower_digit, lower_bytes, entry_meaning, program_meaning, words_meaning, line_meaning}

-- a step that gives something, and the next
goes : {A B : Type 0} {a : A} {b : B} (o : Option A) (f : A → Option B) → o ≡ Some a → f a ≡ Some b → option_and_then f o ≡ Some b
goes o f e h = ap (option_and_then f) e ∙ h

number_more : (most more : ℕ) (text : List ℕ) (n : ℕ) → most ≤ more → number_within 0 most text ≡ Some n → number_within 0 more text ≡ Some n
unfolding number_within
number_more most more text n le e =
    let number = steps (number_of text) _ n e in
    let tested = cond_some (leb 0 number.0 && leb number.0 most) number.0 n number.2 in
    let limits = and_parts (leb 0 number.0) (leb number.0 most) tested.0 in
    let few = leb-true number.0 most limits.1 in
    rw (number.1, limits.0, le-leb number.0 more (omega (arith, few, le))) (ap Some tested.1)

bytes_more : (most more : ℕ) (field bytes : List ℕ) → most ≤ more → lower_bytes most field ≡ Some bytes → lower_bytes more field ≡ Some bytes
unfolding lower_bytes
bytes_more most more field bytes le e =
    let tested = if_true (leb (length field) (2 * most) && list_all is_lower_digit field) (field_bytes field) bytes e in
    let limits = and_parts (leb (length field) (2 * most)) (list_all is_lower_digit field) tested.0 in
    let few = leb-true (length field) (2 * most) limits.0 in
    rw (le-leb (length field) (2 * more) (omega (arith, few, le)), limits.1) tested.1

module _ (old new : ℕ) (le : old ≤ new) where
  program_more : (text : List ℕ) (m : Meaning) → program_meaning old text ≡ Some m → program_meaning new text ≡ Some m
  unfolding program_meaning
  program_more text m e =
      let first = steps (split_at_space text) _ m e in
      let second = steps (split_at_space first.0.1) _ m first.2 in
      let mode = steps (mode_of first.0.0) _ m second.2 in
      let len = steps (number_within 0 (most_argument old) second.0.0) _ m mode.2 in
      let bytes = steps (lower_bytes (most_bytes old) second.0.1) _ m len.2 in
      let argument : number_within 0 (most_argument new) second.0.0 ≡ Some len.0 = number_more (most_argument old) (most_argument new) second.0.0 len.0 (omega (arith, le)) len.1 in
      let program : lower_bytes (most_bytes new) second.0.1 ≡ Some bytes.0 = bytes_more (most_bytes old) (most_bytes new) second.0.1 bytes.0 (omega (arith, le)) bytes.1 in
      goes _ _ first.1 (goes _ _ second.1 (goes _ _ mode.1 (goes _ _ argument (goes _ _ program bytes.2))))

  words_more : (line : List ℕ) (m : Meaning) → words_meaning old line ≡ Some m → words_meaning new line ≡ Some m
  unfolding words_meaning
  words_more line m e =
      let field = steps (split_at_space line) _ m e in
      goes _ _ field.1 (by_letter field.0.0 field.0.1 (bytes_eq field.0.0 (codes "p")) field.2)
    where
      by_letter : (w r : List ℕ) (p : Bool) → cond p (program_meaning old r) (entry_meaning w r) ≡ Some m → cond p (program_meaning new r) (entry_meaning w r) ≡ Some m
      by_letter w r true e = program_more r m e
      by_letter w r false e = e

  pub line_more : (line : List ℕ) (m : Meaning) → line_meaning old line ≡ Some m → line_meaning new line ≡ Some m
  unfolding line_meaning
  line_more line m e =
      let parts = unless (ltb DUMP_LINE_BYTES (length line)) (words_meaning old line) m e in
      rw parts.0 (words_more line m parts.1)

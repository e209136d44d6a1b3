-- What is spelled so means that.
use Rattle.maps.specs.declared.shapes.MapLimits.{MapLimits}
use Rattle.std.proofs.Common.{◌≡◌, inl, inr, ℕ, ◌<◌, ◌≤◌, ◌^◌, Bool, true, false, eqb, leb, ◌&&◌, List, [], ◌∷◌, ◌++◌, ◌∙◌, length, codes, decimal, Some, refl, sym, subst, arith}
use Rattle.std.specs.List.{list_all}
use Rattle.std.proofs.lemmas.Bool.{le-leb, and_parts}
use Rattle.std.proofs.lemmas.Bool.Decides.{nat_tests}
use Rattle.std.proofs.lemmas.Fmt.{digits_decimal}
use Rattle.maps.specs.declared.shapes.Shape.TheVariants.{Array, Hash}
use Rattle.verifier.specs.declared.refusal.Mode.{Mode}
use Rattle.verifier.specs.declared.refusal.Mode.TheVariants.{Update, Read}
use Rattle.text.specs.Fields.{split_at_space}
use Rattle.maps.specs.Shapes.{AreLimits}
use Rattle.text.specs.Words.{IsFrom, number_within, is_name_byte, is_name}
use Rattle.text.specs.declared.lines.TheConstants.{LINE_BYTES}
use Rattle.text.proofs.Export.{by_words, by_hash, by_empty, own, numerals_are_decimals, split_to}
use Rattle.loader.specs.Grammar.{is_path, ProgramLine, Meaning, Comment, Map, Program, array_meaning, hash_meaning, by_kind_of_map, map_meaning, mode_of, program_meaning, words_of, words_meaning, line_meaning}
use Rattle.loader.specs.Spelling.{mode_word, Spells}
use Rattle.text.specs.Fields.{is_space, has_no_space}

small : (high n : ℕ) → n ≤ high → high < 2 ^ 64 → n < 2 ^ 64
small high n le lt = omega (arith, le, lt)

within : (low high n : ℕ) → IsFrom low high n → high < 2 ^ 64 → number_within low high (decimal n) ≡ Some n
unfolding number_within
within low high n h lt = rw ((numerals_are_decimals (decimal n) n).1 (refl, small high n h.1 lt), le-leb low n h.0, le-leb n high h.1) refl

-- what passes a test that no space passes has no space
pub no_space_from : (p : ℕ → Bool) → ((b : ℕ) → p b ≡ true → is_space b ≡ false) → (t : List ℕ) → list_all p t ≡ true → has_no_space t ≡ true
no_space_from p other [] h = refl
no_space_from p other (b ∷ t) h =
    let both = and_parts (p b) (list_all p t) h in
    rw (other b both.0, no_space_from p other t both.1) refl

pub digit_no_space : (b : ℕ) → (leb 48 b && leb b 57) ≡ true → is_space b ≡ false
digit_no_space b h = grind (arith, nat_tests)

name_no_space : (b : ℕ) → is_name_byte b ≡ true → is_space b ≡ false
name_no_space b h = grind (arith, nat_tests)

pub no_space_in_number : (n : ℕ) → n < 2 ^ 64 → has_no_space (decimal n) ≡ true
no_space_in_number n lt = no_space_from (λ b. leb 48 b && leb b 57) digit_no_space (decimal n) (digits_decimal own n lt)

pub no_space_in_name : (t : List ℕ) → is_name t ≡ true → has_no_space t ≡ true
unfolding is_name
no_space_in_name t h =
    let last = and_parts _ (list_all is_name_byte t) h in
    no_space_from is_name_byte name_no_space t last.1

pub no_space_in_mode : (m : Mode) → has_no_space (mode_word m) ≡ true
no_space_in_mode Update = refl
no_space_in_mode Read = refl

pub mode_to : (m : Mode) → mode_of (mode_word m) ≡ Some m
mode_to Update = refl
mode_to Read = refl

array_to : (l : MapLimits) (v e : ℕ) → IsFrom 1 l.value v → IsFrom 1 l.entries e → AreLimits l → array_meaning l (decimal v ++ 32 ∷ decimal e) ≡ Some (Map (Array v e))
unfolding array_meaning
array_to l v e hv he ok =
    rw (split_to (decimal v) (decimal e) (no_space_in_number v (omega (arith, hv.1, ok.value))), within 1 l.value v hv (omega (arith, ok.value)), within 1 l.entries e he (omega (arith, ok.entries))) refl

hash_to : (l : MapLimits) (k v e : ℕ) → IsFrom 1 l.key k → IsFrom 1 l.value v → IsFrom 1 l.entries e → AreLimits l → hash_meaning l (decimal k ++ 32 ∷ (decimal v ++ 32 ∷ decimal e)) ≡ Some (Map (Hash k v e))
unfolding hash_meaning
hash_to l k v e hk hv he ok =
    rw (
      split_to (decimal k) (decimal v ++ 32 ∷ decimal e) (no_space_in_number k (omega (arith, hk.1, ok.key.1))),
      split_to (decimal v) (decimal e) (no_space_in_number v (omega (arith, hv.1, ok.value))),
      within 1 l.key k hk (omega (arith, ok.key.1)),
      within 1 l.value v hv (omega (arith, ok.value)),
      within 1 l.entries e he (omega (arith, ok.entries)),
    ) refl

-- a line of a map, by its second word
map_to : (l : MapLimits) (word rest : List ℕ) (x : Meaning) → has_no_space word ≡ true → by_kind_of_map l word rest ≡ Some x → words_meaning l (codes "map " ++ (word ++ 32 ∷ rest)) ≡ Some x
unfolding words_meaning words_of map_meaning
map_to l word rest x plain is =
    let first : split_at_space (codes "map" ++ 32 ∷ (word ++ 32 ∷ rest)) ≡ Some (codes "map", word ++ 32 ∷ rest) = split_to (codes "map") _ refl in
    let second : split_at_space (word ++ 32 ∷ rest) ≡ Some (word, rest) = split_to word rest plain in
    rw (first, second) is

abbrev pub fields : ProgramLine → List ℕ
fields p = p.name ++ 32 ∷ (mode_word p.mode ++ 32 ∷ (decimal p.arg_len ++ 32 ∷ p.file))

fields_to : (l : MapLimits) (p : ProgramLine) → AreLimits l → is_name p.name ≡ true → p.arg_len ≤ l.argument → is_path p.file ≡ true → program_meaning l (fields p) ≡ Some (Program p)
unfolding program_meaning
fields_to l p ok name len path =
    let most = ok.argument in
    rw (
      split_to p.name (mode_word p.mode ++ 32 ∷ (decimal p.arg_len ++ 32 ∷ p.file)) (no_space_in_name p.name name),
      split_to (mode_word p.mode) (decimal p.arg_len ++ 32 ∷ p.file) (no_space_in_mode p.mode),
      split_to (decimal p.arg_len) p.file (no_space_in_number p.arg_len (omega (arith, len, most))),
      mode_to p.mode,
      within 0 l.argument p.arg_len (omega arith, len) (omega (arith, most)),
      name,
      path,
    ) refl

program_to : (l : MapLimits) (p : ProgramLine) → AreLimits l → is_name p.name ≡ true → p.arg_len ≤ l.argument → is_path p.file ≡ true → words_meaning l (codes "program " ++ fields p) ≡ Some (Program p)
unfolding words_meaning words_of
program_to l p ok name len path =
    let first : split_at_space (codes "program" ++ 32 ∷ fields p) ≡ Some (codes "program", fields p) = split_to (codes "program") _ refl in
    rw first (fields_to l p ok name len path)

of_words : (l : MapLimits) (c : ℕ) (cs : List ℕ) (x : Meaning) → length (c ∷ cs) ≤ LINE_BYTES → eqb c 35 ≡ false → words_meaning l (c ∷ cs) ≡ Some x → line_meaning l (c ∷ cs) ≡ Some x
unfolding line_meaning
of_words l c cs x le other e = by_words Comment (words_meaning l (c ∷ cs)) c cs le other ∙ e

comment_to : (l : MapLimits) (cs : List ℕ) → length (35 ∷ cs) ≤ LINE_BYTES → line_meaning l (35 ∷ cs) ≡ Some Comment
unfolding line_meaning
comment_to l cs le = by_hash Comment (words_meaning l (35 ∷ cs)) cs le

empty_to : (l : MapLimits) → line_meaning l [] ≡ Some Comment
unfolding line_meaning
empty_to l = by_empty Comment (words_meaning l [])

pub respelled : (l : MapLimits) (line : List ℕ) (x : Meaning) → AreLimits l → length line ≤ LINE_BYTES → Spells l x line → line_meaning l line ≡ Some x
respelled l line Comment ok le (inl empty) = subst (λ y. line_meaning l y ≡ Some Comment) (sym empty) (empty_to l)
respelled l line Comment ok le (inr (rest, whole)) = subst (λ y. length y ≤ LINE_BYTES → line_meaning l y ≡ Some Comment) (sym whole) (comment_to l rest) le
respelled l line (Map (Array v e)) ok le h =
    subst (λ y. length y ≤ LINE_BYTES → line_meaning l y ≡ Some (Map (Array v e))) (sym h.0) (λ s. of_words l _ _ _ s refl (map_to l (codes "array") _ _ refl (array_to l v e h.1 h.2 ok))) le
respelled l line (Map (Hash k v e)) ok le h =
    subst (λ y. length y ≤ LINE_BYTES → line_meaning l y ≡ Some (Map (Hash k v e))) (sym h.0) (λ s. of_words l _ _ _ s refl (map_to l (codes "hash") _ _ refl (hash_to l k v e h.1 h.2 h.3 ok))) le
respelled l line (Program p) ok le h =
    subst (λ y. length y ≤ LINE_BYTES → line_meaning l y ≡ Some (Program p)) (sym h.0) (λ s. of_words l _ _ _ s refl (program_to l p ok h.1 h.2 h.3)) le

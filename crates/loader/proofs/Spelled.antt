-- What a line means is how it is spelled.
use Rattle.maps.specs.declared.shapes.MapLimits.{MapLimits}
use Rattle.std.proofs.Common.{◌≡◌, ◌⊎◌, inl, inr, ℕ, ◌≤◌, Bool, true, false, cond, leb, ◌&&◌, List, ◌∷◌, ◌++◌, length, codes, bytes_eq, decimal, Some, None, refl, sym, ap, ap₂, subst, ◌∙◌}
use Rattle.std.proofs.lemmas.Bool.{leb-true, and_parts}
use Rattle.std.proofs.lemmas.Option.{cond_some}
use Rattle.maps.specs.declared.shapes.Shape.TheVariants.{Array, Hash}
use Rattle.verifier.specs.declared.refusal.Mode.{Mode}
use Rattle.verifier.specs.declared.refusal.Mode.TheVariants.{Update, Read}
use Rattle.text.specs.Fields.{split_at_space}
use Rattle.text.specs.Words.{IsFrom, number_of, number_within, is_name}
use Rattle.text.proofs.Export.{IsSilent, by_kind_from, numerals_are_decimals, steps, split_from}
use Rattle.text.specs.declared.lines.TheConstants.{LINE_BYTES}
use Rattle.loader.specs.Grammar.{is_path, Meaning, Comment, Map, Program, array_meaning, hash_meaning, map_meaning, mode_of, program_meaning, words_of, by_first_word, words_meaning, line_meaning}
use Rattle.loader.specs.declared.grammar.FirstWord.{FirstWord}
use Rattle.loader.specs.declared.grammar.FirstWord.TheVariants as words
use Rattle.loader.specs.Spelling.{mode_word, Spells}
use Rattle.loader.proofs.WordLemmas.{word_is, is_map, is_program, IsCut, cut_from}

pub within : (low high : ℕ) (t : List ℕ) (n : ℕ) → number_within low high t ≡ Some n → (t ≡ decimal n) × IsFrom low high n
unfolding number_within
within low high t n e =
    let read = steps (number_of t) _ n e in
    let parts = cond_some (leb low read.0 && leb read.0 high) read.0 n read.2 in
    let both = and_parts (leb low read.0) (leb read.0 high) parts.0 in
    let dec = (numerals_are_decimals t read.0).0 read.1 in
    (dec.0 ∙ ap decimal parts.1, (rw (← parts.1) (leb-true _ _ both.0), rw (← parts.1) (leb-true _ _ both.1)))

array_from : (l : MapLimits) (t : List ℕ) (x : Meaning) → array_meaning l t ≡ Some x → Spells l x (codes "map array " ++ t)
unfolding array_meaning
array_from l t x e =
    let value = steps (split_at_space t) _ x e in
    let size = steps (number_within 1 l.value value.0.0) _ x value.2 in
    let entries = steps (number_within 1 l.entries value.0.1) _ x size.2 in
    let is : Map (Array size.0 entries.0) ≡ x = cc in
    let v = within 1 l.value value.0.0 size.0 size.1 in
    let n = within 1 l.entries value.0.1 entries.0 entries.1 in
    let whole : t ≡ decimal size.0 ++ 32 ∷ decimal entries.0 = split_from t value.0 value.1 ∙ ap₂ (λ a b. a ++ 32 ∷ b) v.0 n.0 in
    subst (λ y. Spells l y (codes "map array " ++ t)) is (ap (λ u. codes "map array " ++ u) whole, v.1, n.1)

hash_from : (l : MapLimits) (t : List ℕ) (x : Meaning) → hash_meaning l t ≡ Some x → Spells l x (codes "map hash " ++ t)
unfolding hash_meaning
hash_from l t x e =
    let key = steps (split_at_space t) _ x e in
    let value = steps (split_at_space key.0.1) _ x key.2 in
    let bytes = steps (number_within 1 l.key key.0.0) _ x value.2 in
    let size = steps (number_within 1 l.value value.0.0) _ x bytes.2 in
    let entries = steps (number_within 1 l.entries value.0.1) _ x size.2 in
    let is : Map (Hash bytes.0 size.0 entries.0) ≡ x = cc in
    let k = within 1 l.key key.0.0 bytes.0 bytes.1 in
    let v = within 1 l.value value.0.0 size.0 size.1 in
    let n = within 1 l.entries value.0.1 entries.0 entries.1 in
    let rest : key.0.1 ≡ decimal size.0 ++ 32 ∷ decimal entries.0 = split_from key.0.1 value.0 value.1 ∙ ap₂ (λ a b. a ++ 32 ∷ b) v.0 n.0 in
    let whole : t ≡ decimal bytes.0 ++ 32 ∷ (decimal size.0 ++ 32 ∷ decimal entries.0) = split_from t key.0 key.1 ∙ ap₂ (λ a b. a ++ 32 ∷ b) k.0 rest in
    subst (λ y. Spells l y (codes "map hash " ++ t)) is (ap (λ u. codes "map hash " ++ u) whole, k.1, v.1, n.1)

map_from : (l : MapLimits) (t : List ℕ) (x : Meaning) → map_meaning l t ≡ Some x → Spells l x (codes "map " ++ t)
unfolding map_meaning
map_from l t x e =
    let kind = steps (split_at_space t) _ x e in
    by_word kind.0.0 kind.0.1 (bytes_eq kind.0.0 (codes "array")) (bytes_eq kind.0.0 (codes "hash")) kind.2 (word_is _ _) (word_is _ _) (split_from t kind.0 kind.1)
  where
    by_word : (w r : List ℕ) (a h : Bool) → cond a (array_meaning l r) (cond h (hash_meaning l r) None) ≡ Some x → (a ≡ true → w ≡ codes "array") → (h ≡ true → w ≡ codes "hash") → t ≡ w ++ 32 ∷ r → Spells l x (codes "map " ++ t)
    by_word w r true h e f g whole = subst (λ u. Spells l x (codes "map " ++ u)) (sym (whole ∙ ap (λ u. u ++ 32 ∷ r) (f refl))) (array_from l r x e)
    by_word w r false true e f g whole = subst (λ u. Spells l x (codes "map " ++ u)) (sym (whole ∙ ap (λ u. u ++ 32 ∷ r) (g refl))) (hash_from l r x e)
    by_word w r false false e f g whole = absurd cc

pub mode_from : (w : List ℕ) (m : Mode) → mode_of w ≡ Some m → w ≡ mode_word m
mode_from w m e = by_word (bytes_eq w (codes "update")) (bytes_eq w (codes "read")) m e (word_is w (codes "update")) (word_is w (codes "read"))
  where
    by_word : (u r : Bool) (m : Mode) → cond u (Some Update) (cond r (Some Read) None) ≡ Some m → (u ≡ true → w ≡ codes "update") → (r ≡ true → w ≡ codes "read") → w ≡ mode_word m
    by_word true r Update e f g = f refl
    by_word true r Read e f g = absurd cc
    by_word false true Update e f g = absurd cc
    by_word false true Read e f g = g refl
    by_word false false m e f g = absurd cc

program_from : (l : MapLimits) (t : List ℕ) (x : Meaning) → program_meaning l t ≡ Some x → Spells l x (codes "program " ++ t)
unfolding program_meaning
program_from l t x e =
    let name = steps (split_at_space t) _ x e in
    let mode = steps (split_at_space name.0.1) _ x name.2 in
    let len = steps (split_at_space mode.0.1) _ x mode.2 in
    let m = steps (mode_of mode.0.0) _ x len.2 in
    let n = steps (number_within 0 l.argument len.0.0) _ x m.2 in
    let last = cond_some (is_name name.0.0 && is_path len.0.1) (Program (record { name = name.0.0; mode = m.0; arg_len = n.0; file = len.0.1 })) x n.2 in
    let good = and_parts (is_name name.0.0) (is_path len.0.1) last.0 in
    let number = within 0 l.argument len.0.0 n.0 n.1 in
    let third : mode.0.1 ≡ decimal n.0 ++ 32 ∷ len.0.1 = split_from mode.0.1 len.0 len.1 ∙ ap (λ w. w ++ 32 ∷ len.0.1) number.0 in
    let second : name.0.1 ≡ mode_word m.0 ++ 32 ∷ (decimal n.0 ++ 32 ∷ len.0.1) = split_from name.0.1 mode.0 mode.1 ∙ ap₂ (λ a b. a ++ 32 ∷ b) (mode_from mode.0.0 m.0 m.1) third in
    let whole : t ≡ name.0.0 ++ 32 ∷ (mode_word m.0 ++ 32 ∷ (decimal n.0 ++ 32 ∷ len.0.1)) = split_from t name.0 name.1 ∙ ap (λ b. name.0.0 ++ 32 ∷ b) second in
    subst (λ y. Spells l y (codes "program " ++ t)) last.1 (ap (λ u. codes "program " ++ u) whole, good.0, number.1.1, good.1)

words_from : (l : MapLimits) (t : List ℕ) (x : Meaning) → words_meaning l t ≡ Some x → Spells l x t
unfolding words_meaning
words_from l t x e =
    let first = steps (words_of t) _ x e in
    by_word first.0.0 first.0.1 first.2 (cut_from t first.0 first.1)
  where
    by_word : (k : FirstWord) (r : List ℕ) → by_first_word l k r ≡ Some x → IsCut t (k, r) → Spells l x t
    by_word words.Map r e c = subst (λ u. Spells l x u) (sym (c.whole ∙ ap (λ u. u ++ 32 ∷ r) (is_map c.word c.kind))) (map_from l r x e)
    by_word words.Program r e c = subst (λ u. Spells l x u) (sym (c.whole ∙ ap (λ u. u ++ 32 ∷ r) (is_program c.word c.kind))) (program_from l r x e)
    by_word words.Other r e c = absurd cc

pub spelled : (l : MapLimits) (line : List ℕ) (x : Meaning) → line_meaning l line ≡ Some x → (length line ≤ LINE_BYTES) × Spells l x line
unfolding line_meaning
spelled l line x e = let read = by_kind_from Comment (words_meaning l line) line x e in (read.0, by_start read.1)
  where
    by_start : (IsSilent line × (Comment ≡ x)) ⊎ (words_meaning l line ≡ Some x) → Spells l x line
    by_start (inl silent) = subst (λ y. Spells l y line) silent.1 silent.0
    by_start (inr words) = words_from l line x words

-- The first word of a line, and its last.
use Rattle.std.proofs.Common.{◌≡◌, ◌⊎◌, inl, inr, ℕ, suc, ◌+◌, ◌-◌, ◌<◌, ◌≤◌, not, eqb, Bool, true, false, cond, List, [], ◌∷◌, ◌++◌, length, get_or, codes, bytes_eq, Some, refl, ap, ◌∙◌, arith}
use Rattle.std.specs.List.{suffix_len}
use Rattle.std.proofs.lemmas.Bool.{eqb-true}
use Rattle.std.proofs.lemmas.List.{length-append}
use Rattle.std.proofs.lemmas.List.Sums.{suffix_len_is, AllPass-from_list_all}
use Rattle.std.proofs.lemmas.Slice.Eq.{bytes_eq-Decides}
use Rattle.std.proofs.Math.Seq.{get_or-append-add, get_or-append_seam, drop-append-add}
use Rattle.text.specs.Fields.{is_space, has_no_space, split_at_space}
use Rattle.text.proofs.Export.{steps, split_from}
use Rattle.loader.specs.declared.grammar.FirstWord.{FirstWord}
use Rattle.loader.specs.declared.grammar.FirstWord.TheVariants as words
use Rattle.loader.specs.Grammar.{first_word, words_of}
use Rattle.loader.specs.NamedFiles.{last_word}

-- ---- the first word

pub word_is : (w : List ℕ) (word : List ℕ) → bytes_eq w word ≡ true → w ≡ word
word_is w word e = (bytes_eq-Decides w word).0 e

map_test : (m p : Bool) → cond m words.Map (cond p words.Program words.Other) ≡ words.Map → m ≡ true
map_test true p e = refl
map_test false true e = absurd cc
map_test false false e = absurd cc

program_test : (m p : Bool) → cond m words.Map (cond p words.Program words.Other) ≡ words.Program → p ≡ true
program_test true p e = absurd cc
program_test false true e = refl
program_test false false e = absurd cc

pub is_map : (w : List ℕ) → first_word w ≡ words.Map → w ≡ codes "map"
is_map w e = word_is w (codes "map") (map_test _ _ e)

pub is_program : (w : List ℕ) → first_word w ≡ words.Program → w ≡ codes "program"
is_program w e = word_is w (codes "program") (program_test _ _ e)

-- a line cut behind its first word
pub record IsCut (line : List ℕ) (w : FirstWord × List ℕ) : Type 0 where
  pub word : List ℕ
  pub whole : line ≡ word ++ 32 ∷ w.1
  pub kind : first_word word ≡ w.0

inside : (x y : FirstWord × List ℕ) → Some x ≡ Some y → x ≡ y
inside x y e = cc

pub cut_from : (line : List ℕ) (w : FirstWord × List ℕ) → words_of line ≡ Some w → IsCut line w
unfolding words_of
cut_from line w e =
    let cut = steps (split_at_space line) _ w e in
    let same = inside (first_word cut.0.0, cut.0.1) w cut.2 in
    record { word = cut.0.0; whole = split_from line cut.0 cut.1 ∙ ap (λ y. cut.0.0 ++ 32 ∷ y.1) same; kind = ap (λ y. y.0) same }

-- ---- the last word

abbrev no_space : ℕ → Bool
no_space b = not (eqb b 32)

pub last_alone : (t : List ℕ) → has_no_space t ≡ true → last_word t ≡ t
last_alone t plain =
    let none : (k : ℕ) → 0 ≤ k → k < length t → no_space (get_or t k 0) ≡ true = λ k low lt. AllPass-from_list_all no_space t plain k 0 lt in
    let len : suffix_len no_space t ≡ length t - 0 = suffix_len_is no_space t 0 0 (omega arith) none (λ lt. absurd (omega arith)) in
    let zero_left : length t - suffix_len no_space t ≡ 0 = omega (arith, len) in
    rw zero_left refl

pub last_behind : (a b : List ℕ) → has_no_space b ≡ true → last_word (a ++ 32 ∷ b) ≡ b
last_behind a b plain =
    let t = a ++ 32 ∷ b in
    let count : length t ≡ length a + length (32 ∷ b) = length-append a (32 ∷ b) in
    let none : (k : ℕ) → length a + 1 ≤ k → k < length t → no_space (get_or t k 0) ≡ true =
    λ k low lt.
    let place : k ≡ length a + ((k - (length a + 1)) + 1) = omega (arith, low) in
    let on : (k - (length a + 1)) + 1 ≡ suc (k - (length a + 1)) = omega arith in
    let at : get_or t k 0 ≡ get_or b (k - (length a + 1)) 0 = ap (λ m. get_or t m 0) (place ∙ ap (λ m. length a + m) on) ∙ get_or-append-add a (32 ∷ b) (suc (k - (length a + 1))) 0 in
    ap no_space at ∙ AllPass-from_list_all no_space b plain (k - (length a + 1)) 0 (omega (arith, low, lt, count)) in
    let before : get_or t ((length a + 1) - 1) 0 ≡ 32 = ap (λ m. get_or t m 0) (omega arith) ∙ get_or-append_seam a 32 b 0 in
    let here : 0 < length a + 1 → no_space (get_or t ((length a + 1) - 1) 0) ≡ false = λ _. ap no_space before in
    let len : suffix_len no_space t ≡ length t - (length a + 1) = suffix_len_is no_space t (length a + 1) 0 (omega (arith, count)) none here in
    let place : length t - suffix_len no_space t ≡ length a + 1 = omega (arith, len, count) in
    rw place (drop-append-add a (32 ∷ b) 1)

-- a text is one word, or its last stands behind a space
abbrev pub LastCut : List ℕ → Type 0
LastCut t = (has_no_space t ≡ true) ⊎ ((a b : List ℕ) × (t ≡ a ++ 32 ∷ b) × (has_no_space b ≡ true))

pub last_cut : (t : List ℕ) → LastCut t
last_cut [] = inl refl
last_cut (c ∷ cs) = on (is_space c) refl (last_cut cs)
  where
    on : (s : Bool) → is_space c ≡ s → LastCut cs → LastCut (c ∷ cs)
    on s is (inr (a, b, whole, plain)) = inr (c ∷ a, b, ap (λ u. c ∷ u) whole, plain)
    on false is (inl plain) = inl (rw (is, plain) refl)
    on true is (inl plain) = inr ([], cs, ap (λ d. d ∷ cs) (eqb-true c 32 is), plain)

-- A text and its lines, each ended by a line feed.
use Rattle.std.proofs.Common.{◌≡◌, ℕ, Bool, true, false, cond, eqb, List, [], ◌∷◌, ◌++◌, map, Option, Some, None, refl, sym, ap, ◌∙◌}
use Rattle.std.specs.List.{flat_map}
use Rattle.std.proofs.lemmas.Bool.{eqb-true}
use Rattle.dumps.specs.Grammar.{onto_line, ended_lines}

-- the text of lines
abbrev pub joined : List (List ℕ) → List ℕ
joined lines = flat_map (λ l. l ++ 10 ∷ []) lines

abbrev rest_of : List (Option (List ℕ)) → List (Option (List ℕ))
rest_of [] = []
rest_of (x ∷ xs) = xs

abbrev first_of : List (Option (List ℕ)) → Option (List ℕ)
first_of [] = None
first_of (x ∷ xs) = x

abbrev line_or : List ℕ → Option (List ℕ) → List ℕ
line_or d (Some line) = line
line_or d None = d

module _ (c : ℕ) (cs : List ℕ) where
  -- the first line grows by one byte at its beginning
  grown : (ls : List (Option (List ℕ))) (lines : List (List ℕ)) → onto_line c ls ≡ map Some lines → ((lines : List (List ℕ)) → ls ≡ map Some lines → cs ≡ joined lines) → c ∷ cs ≡ joined lines
  grown [] [] is behind = absurd cc
  grown [] (l ∷ lines) is behind = absurd cc
  grown (None ∷ ls) [] is behind = absurd cc
  grown (None ∷ ls) (l ∷ lines) is behind = absurd cc
  grown (Some line ∷ ls) [] is behind = absurd cc
  grown (Some line ∷ ls) (l ∷ lines) is behind =
      let first : c ∷ line ≡ l = ap (λ x. line_or [] (first_of x)) is in
      let rest : ls ≡ map Some lines = ap rest_of is in
      let whole : cs ≡ line ++ 10 ∷ joined lines = behind (line ∷ lines) (ap (λ x. Some line ∷ x) rest) ∙ cut line (joined lines) in
      ap (λ x. c ∷ x) whole ∙ ap (λ x. x ++ 10 ∷ joined lines) first ∙ sym (cut l (joined lines))
    where
      cut : (l rest : List ℕ) → (l ++ 10 ∷ []) ++ rest ≡ l ++ 10 ∷ rest
      cut [] rest = refl
      cut (x ∷ l) rest = ap (λ y. x ∷ y) (cut l rest)

  ended : (feed : Bool) (ls : List (Option (List ℕ))) (lines : List (List ℕ)) → (feed ≡ true → c ≡ 10) → cond feed (Some [] ∷ ls) (onto_line c ls) ≡ map Some lines
      → ((lines : List (List ℕ)) → ls ≡ map Some lines → cs ≡ joined lines) → c ∷ cs ≡ joined lines
  ended false ls lines is_feed is behind = grown ls lines is behind
  ended true ls [] is_feed is behind = absurd cc
  ended true ls (l ∷ lines) is_feed is behind =
      let first : [] ≡ l = ap (λ x. line_or [] (first_of x)) is in
      let rest : cs ≡ joined lines = behind lines (ap rest_of is) in
      rw (is_feed refl, rest, ← first) refl

-- where each line ends with a line feed, the text is its lines
pub text_is_lines : (text : List ℕ) (lines : List (List ℕ)) → ended_lines text ≡ map Some lines → text ≡ joined lines
text_is_lines [] [] is = refl
text_is_lines [] (l ∷ lines) is = absurd cc
text_is_lines (c ∷ cs) lines is = ended c cs (eqb c 10) (ended_lines cs) lines (eqb-true c 10) is (text_is_lines cs)

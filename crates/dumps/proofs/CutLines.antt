-- A text cut behind some of its lines.
use Rattle.std.proofs.Common.{◌≡◌, ℕ, Bool, true, false, cond, eqb, List, [], ◌∷◌, ◌++◌, map, Option, Some, None, refl, ap, ◌∙◌}
use Rattle.std.proofs.lemmas.Bool.{eqb-true}
use Rattle.dumps.specs.Grammar.{onto_line, ended_lines}
use Rattle.dumps.proofs.TextLines.{joined}

-- more text behind lines that are all ended
pub appended : (a b : List ℕ) (lines : List (List ℕ)) → ended_lines a ≡ map Some lines → ended_lines (a ++ b) ≡ map Some lines ++ ended_lines b
appended [] b [] is = refl
appended [] b (l ∷ lines) is = absurd cc
appended (c ∷ cs) b lines is = by (eqb c 10) (ended_lines cs) (ended_lines (cs ++ b)) lines is (λ ks e. appended cs b ks e)
  where
    by : (feed : Bool) (xs ys : List (Option (List ℕ))) (ls : List (List ℕ)) → cond feed (Some [] ∷ xs) (onto_line c xs) ≡ map Some ls → ((ks : List (List ℕ)) → xs ≡ map Some ks → ys ≡ map Some ks ++ ended_lines b)
        → cond feed (Some [] ∷ ys) (onto_line c ys) ≡ map Some ls ++ ended_lines b
    by true xs ys [] is rest = absurd cc
    by true xs ys (l ∷ ls) is rest =
        let first : [] ≡ l = cc in
        let others : xs ≡ map Some ls = cc in
        ap (λ u. Some [] ∷ u) (rest ls others) ∙ ap (λ u. Some u ∷ (map Some ls ++ ended_lines b)) first
    by false [] ys [] is rest = absurd cc
    by false [] ys (l ∷ ls) is rest = absurd cc
    by false (None ∷ xs) ys [] is rest = absurd cc
    by false (None ∷ xs) ys (l ∷ ls) is rest = absurd cc
    by false (Some line ∷ xs) ys [] is rest = absurd cc
    by false (Some line ∷ xs) ys (l ∷ ls) is rest =
        let first : c ∷ line ≡ l = cc in
        let others : xs ≡ map Some ls = cc in
        ap (onto_line c) (rest (line ∷ ls) (ap (λ u. Some line ∷ u) others)) ∙ ap (λ u. Some u ∷ (map Some ls ++ ended_lines b)) first

-- a text that begins with these lines
pub record Cut (text : List ℕ) (lines : List (List ℕ)) (back : List (Option (List ℕ))) : Type 0 where
  pub rest : List ℕ
  pub split : text ≡ joined lines ++ rest
  pub first : ended_lines rest ≡ back

pub cut : (text : List ℕ) (lines : List (List ℕ)) (back : List (Option (List ℕ))) → ended_lines text ≡ map Some lines ++ back → Cut text lines back
cut text [] back is = record { rest = text; split = refl; first = is }
cut [] (l ∷ lines) back is = absurd cc
cut (c ∷ cs) (l ∷ lines) back is = by (eqb c 10) (ended_lines cs) (eqb-true c 10) is (λ ks e. cut cs ks back e)
  where
    by : (feed : Bool) (xs : List (Option (List ℕ))) → (feed ≡ true → c ≡ 10) → cond feed (Some [] ∷ xs) (onto_line c xs) ≡ Some l ∷ (map Some lines ++ back)
        → ((ks : List (List ℕ)) → xs ≡ map Some ks ++ back → Cut cs ks back) → Cut (c ∷ cs) (l ∷ lines) back
    by true xs feed is rest =
        let first : [] ≡ l = cc in
        let others : xs ≡ map Some lines ++ back = cc in
        let r = rest lines others in
        record { rest = r.rest; split = ap (λ x. x ∷ cs) (feed refl) ∙ ap (λ u. 10 ∷ u) r.split ∙ ap (λ x. joined (x ∷ lines) ++ r.rest) first; first = r.first }
    by false [] feed is rest = absurd cc
    by false (None ∷ xs) feed is rest = absurd cc
    by false (Some line ∷ xs) feed is rest =
        let first : c ∷ line ≡ l = cc in
        let others : xs ≡ map Some lines ++ back = cc in
        let r = rest (line ∷ lines) (ap (λ u. Some line ∷ u) others) in
        record { rest = r.rest; split = ap (λ u. c ∷ u) r.split ∙ ap (λ x. joined (x ∷ lines) ++ r.rest) first; first = r.first }

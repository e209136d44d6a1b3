-- The script of the lines so far: one line on, a line that is wrong, and the end.
use Rattle.std.proofs.Common.{◌≡◌, ℕ, List, [], ◌∷◌, ◌++◌, append_assoc, append-nil, Result, Ok, Err, refl, sym, ap, ◌∙◌, subst}
use Rattle.std.specs.Prelude.{codes}
use Rattle.text.specs.Lines.{next_line}
use Rattle.encoding.specs.declared.faults.LineFault.{LineFault}
use Rattle.encoding.specs.declared.faults.EncodeRefusal.{EncodeRefusal}
use Rattle.encoding.specs.Encoded.{encoded, onto, behind, encoded_from}

onto-onto : (xs ys : List ℕ) (read : Result (List ℕ) EncodeRefusal) → onto (xs ++ ys) read ≡ onto xs (onto ys read)
onto-onto xs ys (Ok p) = ap Ok (append_assoc xs ys p)
onto-onto xs ys (Err e) = refl

-- nothing stands before the first line
pub onto-nil : (read : Result (List ℕ) EncodeRefusal) → onto [] read ≡ read
onto-nil (Ok p) = refl
onto-nil (Err e) = refl

module _ (n number : ℕ) (all : List (List ℕ)) (line : List ℕ) (lines : List (List ℕ)) (before : List ℕ) (total : Result (List ℕ) EncodeRefusal) (cut : all ≡ line ∷ lines) (same : number ≡ n) (so_far : onto before (encoded_from n all) ≡ total) where
  whole : onto before (behind n (encoded line) (encoded_from (next_line n) lines)) ≡ total
  unfolding encoded_from
  whole = subst (λ ls. onto before (encoded_from n ls) ≡ total) cut so_far

  pub good_line : (after : ℕ) (text items : List ℕ) → after ≡ next_line n → Ok text ≡ encoded line → items ≡ before ++ (text ++ codes "\n") → onto items (encoded_from after lines) ≡ total
  good_line after text items next is put =
      rw (put, next) (onto-onto before (text ++ codes "\n") (encoded_from (next_line n) lines)
      ∙ ap (λ r. onto before (behind n r (encoded_from (next_line n) lines))) is ∙ whole)

  pub bad_line : (why : LineFault) → Err why ≡ encoded line → total ≡ Err (record { line = number; fault = why })
  bad_line why is =
      sym whole ∙ ap (λ r. onto before (behind n r (encoded_from (next_line n) lines))) (sym is) ∙ ap (λ k. Err (record { line = k; fault = why })) (sym same)

pub no_line : (n : ℕ) (all : List (List ℕ)) (before : List ℕ) (total : Result (List ℕ) EncodeRefusal) → all ≡ [] → onto before (encoded_from n all) ≡ total → total ≡ Ok before
unfolding encoded_from
no_line n all before total none so_far = sym (subst (λ ls. onto before (encoded_from n ls) ≡ total) none so_far) ∙ ap Ok (append-nil before)

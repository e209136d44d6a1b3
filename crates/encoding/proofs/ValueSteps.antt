-- The argument of the values so far: one value on, and a value that is wrong.
use Rattle.std.proofs.Common.{◌≡◌, ℕ, ◌+◌, List, [], ◌∷◌, length, Option, Some, None, Result, Ok, Err, sym, ap, ◌∙◌, subst}
use Rattle.encoding.specs.declared.faults.LineFault.{LineFault}
use Rattle.encoding.specs.Encoded.{◌>>=◌, added, argument_from}

-- how many bytes are left, and one more where there is a word
abbrev pub bytes_left : Option (List ℕ) → ℕ
bytes_left None = 0
bytes_left (Some text) = length text + 1

module _ (column : ℕ) (so_far : List ℕ) (all : List (List ℕ)) (word : List ℕ) (words : List (List ℕ)) (total : Result (List ℕ) LineFault) (cut : all ≡ word ∷ words) (is_total : argument_from column so_far all ≡ total) where
  whole : (added column so_far word >>= (λ more. argument_from (column + length word + 1) more words)) ≡ total
  unfolding argument_from
  whole = subst (λ ws. argument_from column so_far ws ≡ total) cut is_total

  pub good_value : (more : List ℕ) → added column so_far word ≡ Ok more → argument_from (column + length word + 1) more words ≡ total
  good_value more put = sym (ap (λ r. r >>= (λ m. argument_from (column + length word + 1) m words)) put) ∙ whole

  pub bad_value : (why : LineFault) → added column so_far word ≡ Err why → Err why ≡ total
  bad_value why is = sym (ap (λ r. r >>= (λ m. argument_from (column + length word + 1) m words)) is) ∙ whole

-- no value is left
pub no_value : (column : ℕ) (so_far : List ℕ) (total : Result (List ℕ) LineFault) → argument_from column so_far [] ≡ total → Ok so_far ≡ total
unfolding argument_from
no_value column so_far total e = e

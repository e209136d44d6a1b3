-- What a line's kind says of it.
use Rattle.std.proofs.Common.{◌≡◌, ◌⊎◌, inl, inr, ℕ, ◌≤◌, Bool, true, false, cond, eqb, ltb, ◌||◌, List, [], ◌∷◌, length, get_or, Option, Some, refl, ap, arith}
use Rattle.std.proofs.lemmas.Bool.{le-ltb, ltb-false, eqb-true, ne_eqb, or_cases}
use Rattle.std.proofs.lemmas.Option.{same_Some}
use Rattle.text.specs.declared.lines.TheConstants.{LINE_BYTES}
use Rattle.text.specs.declared.lines.LineKind.TheVariants as kinds
use Rattle.text.specs.Lines.{kind_of, by_kind}

-- the line is empty, or begins with #
abbrev pub IsSilent : List ℕ → Type 0
IsSilent line = (line ≡ []) ⊎ ((rest : List ℕ) × (line ≡ 35 ∷ rest))

silent_from : (line : List ℕ) → (eqb (length line) 0 || eqb (get_or line 0 0) 35) ≡ true → IsSilent line
silent_from [] h = inl refl
silent_from (c ∷ cs) h = inr (cs, ap (λ b. b ∷ cs) (is_hash (or_cases _ _ h)))
  where
    is_hash : ((eqb (length (c ∷ cs)) 0 ≡ true) ⊎ (eqb c 35 ≡ true)) → c ≡ 35
    is_hash (inl e) = absurd (omega (arith, eqb-true _ _ e))
    is_hash (inr e) = eqb-true _ _ e

-- a line that means something is short, and says nothing, or means what its words mean
pub by_kind_from : {M : Type 0} (nothing : M) (words : Option M) (line : List ℕ) (x : M) → by_kind nothing words (kind_of line) ≡ Some x
    → (length line ≤ LINE_BYTES) × ((IsSilent line × (nothing ≡ x)) ⊎ (words ≡ Some x))
unfolding kind_of
by_kind_from {M} nothing words line x e = by_length (ltb LINE_BYTES (length line)) (eqb (length line) 0 || eqb (get_or line 0 0) 35) e (ltb-false LINE_BYTES (length line)) (silent_from line)
  where
    by_length : (long silent : Bool) → by_kind nothing words (cond long kinds.TooLong (cond silent kinds.Comment kinds.Words)) ≡ Some x
        → (long ≡ false → length line ≤ LINE_BYTES) → (silent ≡ true → IsSilent line)
        → (length line ≤ LINE_BYTES) × ((IsSilent line × (nothing ≡ x)) ⊎ (words ≡ Some x))
    by_length true silent e f g = absurd cc
    by_length false true e f g = (f refl, inl (g refl, same_Some nothing x e))
    by_length false false e f g = (f refl, inr e)

-- a short line that begins with something else than # means what its words mean
pub by_words : {M : Type 0} (nothing : M) (words : Option M) (c : ℕ) (cs : List ℕ) → length (c ∷ cs) ≤ LINE_BYTES → eqb c 35 ≡ false → by_kind nothing words (kind_of (c ∷ cs)) ≡ words
unfolding kind_of
by_words nothing words c cs le other =
    let short : ltb LINE_BYTES (length (c ∷ cs)) ≡ false = le-ltb LINE_BYTES (length (c ∷ cs)) le in
    let some : eqb (length (c ∷ cs)) 0 ≡ false = ne_eqb _ _ (λ e. absurd (omega (arith, e))) in
    rw (short, some, other) refl

-- a short line that begins with # says nothing
pub by_hash : {M : Type 0} (nothing : M) (words : Option M) (cs : List ℕ) → length (35 ∷ cs) ≤ LINE_BYTES → by_kind nothing words (kind_of (35 ∷ cs)) ≡ Some nothing
unfolding kind_of
by_hash nothing words cs le =
    let short : ltb LINE_BYTES (length (35 ∷ cs)) ≡ false = le-ltb LINE_BYTES (length (35 ∷ cs)) le in
    let some : eqb (length (35 ∷ cs)) 0 ≡ false = ne_eqb _ _ (λ e. absurd (omega (arith, e))) in
    rw (short, some) refl

-- an empty line says nothing
pub by_empty : {M : Type 0} (nothing : M) (words : Option M) → by_kind nothing words (kind_of []) ≡ Some nothing
unfolding kind_of
by_empty nothing words = refl

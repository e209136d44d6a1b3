-- Words are tokens.
use Rattle.std.proofs.Common.{◌≡◌, inl, inr, ℕ, true, ◌&&◌, ltb, List, [], ◌∷◌, length, refl, ap, ◌∙◌, subst}
use Rattle.std.specs.List.{list_all, AllByRecursion}
use Rattle.std.proofs.lemmas.Bool.{ltb-true, and_parts}
use Rattle.asm.specs.declared.words.Mnemonic.{Mnemonic}
use Rattle.asm.specs.declared.words.TheConstants.{WORDS}
use Rattle.asm.specs.Words.{word_of, HasWord, IsSpelled, IsSaid}
use Rattle.asm.proofs.Parts.{is_plain, IsToken}
use Rattle.asm.proofs.Table.{rows_are_spelled, each_is_said}

abbrev pub Passes : List ℕ → Type 0
Passes word = (ltb 0 (length word) && list_all is_plain word) ≡ true

rows_pass : AllByRecursion (λ row. Passes row.0.now) WORDS
rows_pass = (refl, (refl, (refl, (refl, (refl, (refl, (refl, (refl, (refl, (refl, (refl, (refl, (refl, (refl, (refl, (refl, (refl, (refl, (refl, (refl, (refl, (refl, (refl, (refl, (refl, (refl, (refl, (refl, (refl, (refl, (refl, (refl, (refl, (refl, (refl, (refl, (refl, (refl, (refl, (refl, (refl, (refl, (refl, (refl, (refl, (refl, (refl, (refl, (refl, (refl, (refl, (refl, (refl, (refl, (refl, (refl, (refl, (refl, (refl, (refl, (refl, (refl, (refl, (refl, (refl, (refl, (refl, (refl, (refl, (refl, (refl, (refl, (refl, (refl, (refl, (refl, (refl, (refl, (refl, (refl, (refl, (refl, (refl, (refl, tt))))))))))))))))))))))))))))))))))))))))))))))))))))))))))))))))))))))))))))))))))))

said_row_has : {R : Type 0} (spelled : R → List ℕ) (P : List ℕ → Type 0) (rows : List (R × Mnemonic)) (m : Mnemonic) → AllByRecursion (λ row. P (spelled row.0)) rows → AllByRecursion (IsSpelled spelled) rows → IsSaid rows m → P (word_of m)
said_row_has spelled P [] m each is said = absurd said
said_row_has spelled P (row ∷ rows) m each is said =
    elim said [
      | inl same ↦ subst P (is.0 ∙ ap word_of same) each.0
      | inr later ↦ said_row_has spelled P rows m each.1 is.1 later
    ]

pub word-token : (m : Mnemonic) → HasWord m → IsToken (word_of m)
word-token m h =
    let both = and_parts (ltb 0 (length (word_of m))) (list_all is_plain (word_of m)) (said_row_has (λ text. text.now) Passes WORDS m rows_pass rows_are_spelled (each_is_said m h)) in
    record { some = ltb-true 0 (length (word_of m)) both.0; plain = both.1 }

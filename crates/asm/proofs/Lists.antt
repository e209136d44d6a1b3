-- Lists: the head of what is left, and where a part ends.
use Rattle.std.proofs.Common.{◌≡◌, ℕ, zero, suc, ◌<◌, List, [], ◌∷◌, length, get_or, drop, inl, inr, arith}
use Rattle.std.specs.List.{AllByRecursion}
use Rattle.asm.specs.declared.words.Mnemonic.{Mnemonic}
use Rattle.asm.specs.Words.{IsSaid}

-- what all that is left have, the element here has
pub head_has : {X : Type 0} (P : X → Type 0) (xs : List X) (i : ℕ) (d : X) → AllByRecursion P (drop i xs) → i < length xs → P (get_or xs i d)
head_has P [] i d h lt = absurd (omega arith)
head_has P (x ∷ xs) zero d h lt = h.0
head_has P (x ∷ xs) (suc i) d h lt = head_has P xs i d h (omega arith)

-- what all that is left have, all behind the element here have
pub tail_has : {X : Type 0} (P : X → Type 0) (xs : List X) (i : ℕ) → AllByRecursion P (drop i xs) → i < length xs → AllByRecursion P (drop (suc i) xs)
tail_has P [] i h lt = absurd (omega arith)
tail_has P (x ∷ xs) zero h lt = h.1
tail_has P (x ∷ xs) (suc i) h lt = tail_has P xs i h (omega arith)

-- what a row behind the one here says
pub said_behind : {R : Type 0} (rows : List (R × Mnemonic)) (m : Mnemonic) (i : ℕ) (d : R × Mnemonic) → IsSaid (drop i rows) m → i < length rows → ((get_or rows i d).1 ≡ m → ⊥) → IsSaid (drop (suc i) rows) m
said_behind [] m i d h lt other = absurd (omega arith)
said_behind (row ∷ rows) m zero d h lt other = elim h [ inl same ↦ absurd (other same) | inr later ↦ later ]
said_behind (row ∷ rows) m (suc i) d h lt other = said_behind rows m i d h (omega arith) other

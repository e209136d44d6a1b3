-- Totals of lists, and sums modulo a number.
use Rattle.std.proofs.Common.{◌≡◌, ℕ, zero, suc, ◌+◌, ◌*◌, ◌/◌, ◌%◌, ◌<◌, List, [], ◌∷◌, length, take, get_or, sym, ap, ◌∙◌, arith}
use Rattle.std.proofs.Math.Nat.{mod-add-div, add-mul-mod_self_left}
use Rattle.example_sums.specs.Sums.{total}

total_took : (xs : List ℕ) (k d : ℕ) → k < length xs → total (take (suc k) xs) ≡ total (take k xs) + get_or xs k d
total_took [] k d h = absurd (omega arith)
total_took (x ∷ xs) zero d h = omega arith
total_took (x ∷ xs) (suc k) d h = let more = total_took xs k d (omega arith) in omega (arith, more)

-- one number more
pub total_next : (xs : List ℕ) (k n d : ℕ) → n ≡ k + 1 → k < length xs → total (take n xs) ≡ total (take k xs) + get_or xs k d
total_next xs k n d is h = let same : n ≡ suc k = omega (arith, is) in ap (λ z. total (take z xs)) same ∙ total_took xs k d h

-- a sum may be reduced before the next number is added
pub mod_add : (n a b : ℕ) → (a % n + b) % n ≡ (a + b) % n
mod_add n a b = sym (add-mul-mod_self_left (a % n + b) n (a / n)) ∙ ap (λ z. z % n) (moved (a % n) b (n * (a / n)) a (mod-add-div a n))
  where
    moved : (m b d a : ℕ) → m + d ≡ a → (m + b) + d ≡ a + b
    moved m b d a e = omega (arith, e)

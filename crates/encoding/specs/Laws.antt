-- What numbers and their bytes are to one another.
use Rattle.std.specs.Prelude.{◌≡◌, ◌⊎◌, ℕ, ◌-◌, ◌*◌, ◌^◌, ℤ, pos, neg_ℤ, ◌≤ℤ◌, ◌<ℤ◌}

-- how many bytes a number has
abbrev pub IsSize : ℕ → Type 0
IsSize n = (n ≡ 1) ⊎ ((n ≡ 2) ⊎ ((n ≡ 4) ⊎ (n ≡ 8)))

-- a number with a sign that so many bytes hold
abbrev pub IsSignedOf : ℕ → ℤ → Type 0
IsSignedOf n z = (neg_ℤ (pos (2 ^ (8 * n - 1))) ≤ℤ z) × (z <ℤ pos (2 ^ (8 * n - 1)))

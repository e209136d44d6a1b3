-- Where a key leads: from its bucket, along its bits, one link at a time.
use Rattle.std.specs.Prelude.{◌≡◌, ◌≢◌, ℕ, zero, suc, ◌+◌, ◌*◌, ◌/◌, ◌%◌, ◌<◌, List, [], ◌∷◌, ◌^◌, slice_index, length, bit_xor}
use Rattle.std.specs.Int.{bit_at, w64, from_le_bytes}

-- bit i of a key, the lowest of the first byte first; past the key's end 0
unfoldable pub key_bit : List ℕ → ℕ → ℕ
key_bit key i = bit_at (slice_index key (i / 8)) (i % 8)

-- word i of a key, of eight bytes, the low one first; past the key's end 0
unfoldable pub word_of : List ℕ → ℕ → ℕ
word_of key i = from_le_bytes w64 (slice_index key (8 * i) ∷ slice_index key (8 * i + 1) ∷ slice_index key (8 * i + 2) ∷ slice_index key (8 * i + 3) ∷ slice_index key (8 * i + 4) ∷ slice_index key (8 * i + 5) ∷ slice_index key (8 * i + 6) ∷ slice_index key (8 * i + 7) ∷ [])

-- a hash with a word more
unfoldable pub mix : ℕ → ℕ → ℕ
mix hash word = let product = bit_xor hash word * 18397679294719823053 % 2 ^ 64 in bit_xor product (product / 2 ^ 32)

-- of so many words of a key
abbrev pub words_hash : List ℕ → ℕ → ℕ
words_hash key zero = 11400714819323198485
words_hash key (suc i) = mix (words_hash key i) (word_of key i)

-- the bucket of a key: its hash, spread over so many
unfoldable pub bucket_of : ℕ → List ℕ → ℕ
bucket_of buckets key = words_hash key ((length key + 7) / 8) % 2 ^ 64 / 2 ^ 32 * buckets / 2 ^ 32

-- the node that a key leads to in so many steps, 0 where it leads nowhere; at buckets + 2 * n + b is the link from node n under bit b
abbrev pub walk : ℕ → (ℕ → ℕ) → List ℕ → ℕ → ℕ
walk buckets link key zero = link (bucket_of buckets key)
walk buckets link key (suc d) = link (buckets + 2 * walk buckets link key d + key_bit key d)

-- where the link to that node stands
abbrev pub cell : ℕ → (ℕ → ℕ) → List ℕ → ℕ → ℕ
cell buckets link key zero = bucket_of buckets key
cell buckets link key (suc d) = buckets + 2 * walk buckets link key d + key_bit key d

-- two keys lead the same way for so many steps
pub record Agree (buckets : ℕ) (a b : List ℕ) (d : ℕ) : Type 0 where
  pub bucket : bucket_of buckets a ≡ bucket_of buckets b
  pub bits : (i : ℕ) → i < d → key_bit a i ≡ key_bit b i

-- the nodes in use are those with a depth, counted from 1; each stands where its key leads, at its depth, and nothing else is led
-- to; what a node in use links to is led to by way of it
pub record IsLinked (buckets : ℕ) (link : ℕ → ℕ) (depth : ℕ → ℕ) (key : ℕ → List ℕ) : Type 0 where
  pub reach : (n d : ℕ) → depth n ≡ suc d → walk buckets link (key n) d ≡ n
  pub sound : (k : List ℕ) (d n : ℕ) → walk buckets link k d ≡ n → n ≢ 0 → (depth n ≡ suc d) × Agree buckets (key n) k d
  pub down : (n d m j : ℕ) → depth n ≡ suc d → j < 2 → link (buckets + 2 * n + j) ≡ m → m ≢ 0 → (walk buckets link (key m) d ≡ n) × (key_bit (key m) d ≡ j)
  pub clear : (n b : ℕ) → depth n ≡ 0 → b < 2 → link (buckets + 2 * n + b) ≡ 0
  pub distinct : (n m : ℕ) → depth n ≢ 0 → depth m ≢ 0 → key n ≡ key m → n ≡ m
  pub null : depth 0 ≡ 0

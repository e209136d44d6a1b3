-- Keys in a flat block, linked as walks find them.
use Rattle.std.specs.Prelude.{◌≡◌, ℕ, zero, suc, ◌+◌, ◌*◌, ◌<◌, ◌≤◌, List, [], ◌∷◌, slice_index, take, drop, length, Option, Some, None}
use Rattle.keyindex.specs.declared.index.TheConstants.{MAX_KEY_SIZE, MAX_INDEX_PLACES, MAX_BUCKETS}
use Rattle.keyindex.specs.Walks.{IsLinked}

-- the number at a place of a list
abbrev pub at : List ℕ → ℕ → ℕ
at xs i = slice_index xs i

-- the bytes of the key of node n; node 0 is none, and node p + 1 stands at place p
unfoldable pub key_of : ℕ → List ℕ → ℕ → List ℕ
key_of size keys n = take size (drop (n * size) keys)

-- a key under a depth, which is 0 where the place is free
abbrev pub standing : ℕ → List ℕ → Option (List ℕ)
standing zero key = None
standing (suc d) key = Some key

-- the key at a place
abbrev pub key_at : ℕ → List ℕ → List ℕ → ℕ → Option (List ℕ)
key_at size depths keys place = standing (at depths (place + 1)) (key_of size keys (place + 1))

-- so many nodes are in use
abbrev pub in_use : List ℕ → ℕ
in_use [] = 0
in_use (zero ∷ ds) = in_use ds
in_use (suc d ∷ ds) = suc (in_use ds)

-- the limits of sizes, the length of each table by them, and the range of links and depths
pub record HasRoom (size buckets : ℕ) (links depths keys free : List ℕ) : Type 0 where
  pub size_low : 0 < size
  pub size_high : size ≤ MAX_KEY_SIZE
  pub buckets_low : 0 < buckets
  pub buckets_high : buckets ≤ MAX_BUCKETS
  pub nodes_low : 0 < length depths
  pub nodes_high : length depths ≤ MAX_INDEX_PLACES + 1
  pub links_len : length links ≡ buckets + 2 * length depths
  pub keys_len : length keys ≡ length depths * size
  pub free_len : length free + 1 ≡ length depths
  pub links_in : (i : ℕ) → at links i < length depths
  pub short : (n : ℕ) → at depths n ≤ 8 * size + 1

-- the first of the stack are the nodes that aren't in use, each once
pub record HasFree (depths free : List ℕ) (count : ℕ) : Type 0 where
  pub within : count ≤ length free
  pub low : (i : ℕ) → i < count → 0 < at free i
  pub high : (i : ℕ) → i < count → at free i < length depths
  pub unused : (i : ℕ) → i < count → at depths (at free i) ≡ 0
  pub distinct : (i j : ℕ) → i < count → j < count → at free i ≡ at free j → i ≡ j
  pub all : count + in_use depths ≡ length free

-- the nodes are linked as walks find them
abbrev pub IsIndex : ℕ → ℕ → List ℕ → List ℕ → List ℕ → Type 0
IsIndex size buckets links depths keys = IsLinked buckets (at links) (at depths) (key_of size keys)

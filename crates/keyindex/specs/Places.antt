-- What callers see of an index.
use Rattle.std.specs.Prelude.{◌≡◌, ◌≢◌, ◌≤◌, ℕ, zero, suc, List, [], ◌∷◌, Option, Some, None, length}
use Rattle.keyindex.specs.declared.index.KeyIndex.{KeyIndex}
use Rattle.keyindex.specs.Walks.{walk}
use Rattle.keyindex.specs.Indexes.{at, key_at}

-- the key that stands at a place; none where the place is free
abbrev pub key_in : KeyIndex → ℕ → Option (List ℕ)
key_in s place = key_at s.size s.depths.items s.keys.items place

-- how many places there are
abbrev pub places : KeyIndex → ℕ
places s = length s.free.items

-- what a function gives for so many numbers from i on
abbrev pub listed : (ℕ → Option (List ℕ)) → ℕ → ℕ → List (Option (List ℕ))
listed f i zero = []
listed f i (suc n) = f i ∷ listed f (suc i) n

-- the keys by their places
abbrev pub keys_of : KeyIndex → List (Option (List ℕ))
keys_of s = listed (key_in s) 0 (places s)

-- how many of them are keys
abbrev pub filled : List (Option (List ℕ)) → ℕ
filled [] = 0
filled (None ∷ ks) = filled ks
filled (Some k ∷ ks) = suc (filled ks)

-- a key stands nowhere
abbrev pub IsAbsent : KeyIndex → List ℕ → Type 0
IsAbsent s key = (place : ℕ) → key_in s place ≢ Some key

-- the bytes of a key, the places and the buckets: they stay for good
pub record HasSizes (s : KeyIndex) (size entries buckets : ℕ) : Type 0 where
  pub size_is : s.size ≡ size
  pub places_are : places s ≡ entries
  pub buckets_are : s.buckets ≡ buckets

-- the second has as many bytes to a key, places and buckets as the first
abbrev pub SameSizes : KeyIndex → KeyIndex → Type 0
SameSizes s t = HasSizes t s.size (places s) s.buckets

-- the node at a place, 0 for no place
abbrev pub node_at : Option ℕ → ℕ
node_at None = 0
node_at (Some place) = suc place

-- from its bucket along its bits a key leads there in at most so many steps, one node a step
abbrev pub LeadsWithin : ℕ → KeyIndex → List ℕ → Option ℕ → Type 0
LeadsWithin n s key place = (d : ℕ) × (d ≤ n) × (walk s.buckets (at s.links.items) key d ≡ node_at place)

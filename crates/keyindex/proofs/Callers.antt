-- For callers: the keys of an index as a list.
use Rattle.std.proofs.Common.{◌≡◌, ◌≢◌, ℕ, zero, suc, ◌+◌, ◌<◌, List, Option, Some, refl, sym, ap, ◌∙◌, subst, arith, length}
use Rattle.std.specs.Prelude.{slice_get}
use Rattle.std.proofs.lemmas.Option.{slice_get_within}
use Rattle.keyindex.specs.declared.index.KeyIndex.{KeyIndex}
use Rattle.keyindex.specs.Places.{key_in, places, keys_of, listed, IsAbsent}
use Rattle.keyindex.proofs.Listed.{listed_get, once}

length_listed : (f : ℕ → Option (List ℕ)) (i n : ℕ) → length (listed f i n) ≡ n
length_listed f i zero = refl
length_listed f i (suc n) = ap suc (length_listed f (suc i) n)

pub many_keys : (s : KeyIndex) → length (keys_of s) ≡ places s
many_keys s = length_listed (key_in s) 0 (places s)

-- the list has what stands at each place
pub key_listed : (s : KeyIndex) (p : ℕ) → p < places s → slice_get (keys_of s) p ≡ Some (key_in s p)
key_listed s p low = listed_get (key_in s) 0 (places s) p low ∙ ap (λ i. Some (key_in s i)) (let e : 0 + p ≡ p = omega arith in e)

one : (x y : Option (List ℕ)) → Some x ≡ Some y → x ≡ y
one x y e = cc

pub listed_key : (s : KeyIndex) (p : ℕ) (x : Option (List ℕ)) → slice_get (keys_of s) p ≡ Some x → (p < places s) × (key_in s p ≡ x)
listed_key s p x e =
    let low : p < places s = subst (λ n. p < n) (many_keys s) (slice_get_within (keys_of s) p x e) in
    (low, one (key_in s p) x (sym (key_listed s p low) ∙ e))

-- each key stands in the list once
pub listed_once : (s : KeyIndex) (p q : ℕ) (k : List ℕ) → slice_get (keys_of s) p ≡ Some (Some k) → slice_get (keys_of s) q ≡ Some (Some k) → p ≡ q
listed_once s p q k x y =
    once s.size s.buckets s.links.items s.depths.items s.keys.items s.linked p q k (listed_key s p (Some k) x).1 (listed_key s q (Some k) y).1

pub not_listed : (s : KeyIndex) (k : List ℕ) → IsAbsent s k → (p : ℕ) → slice_get (keys_of s) p ≢ Some (Some k)
not_listed s k absent p e = absent p (listed_key s p (Some k) e).1

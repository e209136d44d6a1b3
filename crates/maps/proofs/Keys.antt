-- The keys that the order of maps distinguishes.
use Rattle.std.proofs.Common.{◌≡◌, ◌≢◌, ℕ, ◌<◌, true, false, List, refl, sym, ap, ◌∙◌}
use Rattle.std.specs.Prelude.{◌^◌}
use Rattle.std.specs.Int.{w32, from_le_bytes}
use Rattle.std.proofs.lemmas.Nat.{from_le_bytes-to_le_bytes_4}
use Rattle.std.specs.Ordering.{nat_cmp, eq_by_cmp}
use Rattle.std.specs.declared.cmp.Ordering.{Ordering}
use Rattle.std.specs.declared.cmp.Ordering.TheVariants.{Less, Equal, Greater}
use Rattle.std.specs.Cmp.{tied_itself}
use Rattle.std.specs.Cmp.Lexicographic.{slice_cmp, nat_list_cmp_total}
use Rattle.std.specs.FinMap.{slice_cmp-IsAntisymmetric, nat_cmp-IsAntisymmetric}
use Rattle.maps.specs.Maps.{index_key}

pub key_ties : (k : List ℕ) → eq_by_cmp (slice_cmp nat_cmp) k k ≡ true
key_ties k = let e = tied_itself nat_list_cmp_total k in rw e refl

differs : (k q : List ℕ) (r : Ordering) → slice_cmp nat_cmp k q ≡ r → k ≢ q → eq_by_cmp (slice_cmp nat_cmp) k q ≡ false
differs k q Less e ne = rw e refl
differs k q Equal e ne = absurd (ne (slice_cmp-IsAntisymmetric nat_cmp-IsAntisymmetric k q e))
differs k q Greater e ne = rw e refl

pub key_differs : (k q : List ℕ) → k ≢ q → eq_by_cmp (slice_cmp nat_cmp) k q ≡ false
key_differs k q ne = differs k q (slice_cmp nat_cmp k q) refl ne

pub key_same : (k q : List ℕ) → eq_by_cmp (slice_cmp nat_cmp) k q ≡ true → k ≡ q
key_same k q e = same (slice_cmp nat_cmp k q) refl e
  where
    same : (r : Ordering) → slice_cmp nat_cmp k q ≡ r → eq_by_cmp (slice_cmp nat_cmp) k q ≡ true → k ≡ q
    same Less p h = absurd (let x : false ≡ true = sym (rw p refl) ∙ h in cc)
    same Equal p h = slice_cmp-IsAntisymmetric nat_cmp-IsAntisymmetric k q p
    same Greater p h = absurd (let x : false ≡ true = sym (rw p refl) ∙ h in cc)

-- different indices have different keys
pub index_same : (a b : ℕ) → a < 2 ^ 32 → b < 2 ^ 32 → index_key a ≡ index_key b → a ≡ b
index_same a b p q e = sym (from_le_bytes-to_le_bytes_4 a p) ∙ (ap (from_le_bytes w32) e ∙ from_le_bytes-to_le_bytes_4 b q)

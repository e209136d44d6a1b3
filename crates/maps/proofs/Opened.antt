-- Maps as they are opened.
use Rattle.std.proofs.Common.{◌≡◌, ℕ, zero, suc, List, [], ◌∷◌, ◌+◌, ◌-◌, ◌*◌, ◌<◌, ◌≤◌, take, drop, None, refl, sym, ap, ◌∙◌, subst, arith}
use Rattle.std.proofs.Math.Nat.{mul-le-mul_right}
use Rattle.maps.specs.declared.shapes.Shape.TheVariants.{Array, Hash}
use Rattle.maps.proofs.Placed.{same_placed, length_index_keys}
use Rattle.std.specs.Prelude.{replicate}
use Rattle.maps.specs.declared.shapes.Shape.{Shape}
use Rattle.maps.specs.Shapes.{AreShapesSupported, block_size, value_size}
use Rattle.maps.specs.MapSets.{stored_shapes, opened, opening_map, opening_maps, maps_of, placed, value_in, opening_keys, index_keys}

same_shapes : (shapes : List Shape) → stored_shapes (opened shapes) ≡ shapes
same_shapes [] = refl
same_shapes (s ∷ shapes) = ap (λ x. s ∷ x) (same_shapes shapes)

pub opened_shapes : (shapes : List Shape) → AreShapesSupported shapes → AreShapesSupported (stored_shapes (opened shapes))
opened_shapes shapes h = subst AreShapesSupported (sym (same_shapes shapes)) h

-- ---- the finite maps: every value is of zeros

taken : (n k : ℕ) → n ≤ k → take {A = ℕ} n (replicate k 0) ≡ replicate n 0
taken zero k h = refl
taken (suc n) zero h = absurd (omega (arith, h))
taken (suc n) (suc k) h = ap (λ xs. 0 ∷ xs) (taken n k (omega (arith, h)))

dropped : (n k : ℕ) → drop {A = ℕ} n (replicate k 0) ≡ replicate (k - n) 0
dropped zero k = ap (λ x. replicate x 0) (let e : k ≡ k - 0 = omega arith in e)
dropped (suc n) zero = ap (λ x. replicate x 0) (let e : 0 ≡ 0 - suc n = omega arith in e)
dropped (suc n) (suc k) = dropped n k ∙ ap (λ x. replicate x 0) (let e : k - n ≡ suc k - suc n = omega arith in e)

zero_value : (size n i : ℕ) → i < n → value_in size (replicate (n * size) 0) i ≡ replicate size 0
zero_value size n i h =
    let fits : (i + 1) * size ≤ n * size = mul-le-mul_right size (omega (arith, h)) in
    ap (take size) (dropped (i * size) (n * size)) ∙ taken size (n * size - i * size) (omega (arith, fits))

none_same : (n m : ℕ) (v w : ℕ → List ℕ) → placed (replicate n None) w m ≡ placed (replicate n None) v m
none_same zero m v w = refl
none_same (suc n) m v w = none_same n (suc m) v w

opened_entries : (s : Shape) → placed (opening_keys s) (value_in (value_size s) (replicate (block_size s) 0)) 0 ≡ placed (opening_keys s) (λ _. replicate (value_size s) 0) 0
opened_entries (Array value entries) =
    same_placed (index_keys 0 entries) (λ _. replicate value 0) (value_in value (replicate (entries * value) 0)) 0
    (λ i h. zero_value value entries (0 + i) (let n = length_index_keys 0 entries in omega (arith, h, n)))
opened_entries (Hash key value entries) = none_same entries 0 _ _

pub opened_maps : (shapes : List Shape) → maps_of (opened shapes) ≡ opening_maps shapes
opened_maps [] = refl
opened_maps (s ∷ shapes) = ap (λ e. record { shape = s; entries = e } ∷ maps_of (opened shapes)) (opened_entries s) ∙ ap (λ ms. opening_map s ∷ ms) (opened_maps shapes)

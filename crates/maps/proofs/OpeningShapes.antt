-- Maps as they are opened have their shapes.
use Rattle.std.proofs.Common.{◌≡◌, ℕ, zero, suc, ◌+◌, ◌≤◌, List, [], ◌∷◌, length, Some, None, refl, sym, ap, ◌∙◌, subst, arith}
use Rattle.std.specs.Prelude.{replicate, is_some, All}
use Rattle.std.specs.FinMap as finite_map
use Rattle.maps.specs.declared.shapes.Shape.{Shape}
use Rattle.maps.specs.declared.shapes.Shape.TheVariants.{Array, Hash}
use Rattle.maps.specs.Shapes.{IsShapeSupported, AreShapesSupported}
use Rattle.maps.specs.Maps.{AreBytes, IsMapState, AreMaps, HasShapes, index_key, shapes_of}
use Rattle.maps.specs.MapSets.{index_keys, opening_map, opening_maps, placed}
use Rattle.maps.proofs.Placed.{get_placed, found_at, index_at, index_stands, index_distinct, none_free, len_hash}
use Rattle.maps.proofs.Kept.{some_of}

zeros : (n : ℕ) → (length {A = ℕ} (replicate n 0) ≡ n) × AreBytes (replicate n 0)
zeros zero = (refl, tt)
zeros (suc n) = let rest = zeros n in (ap suc rest.0, (omega arith, rest.1))

opening_ok : (s : Shape) → IsShapeSupported s → IsMapState (opening_map s)
opening_ok (Array value entries) ok =
    let v : ℕ → List ℕ = λ _. replicate value 0 in
    let few : 0 + entries ≤ 4294967296 = omega (arith, ok.entries.1) in
    record {
      count = λ m h. ap is_some (get_placed (index_keys 0 entries) v 0 m (index_key m) (index_distinct 0 entries few) (index_at 0 entries m h ∙ ap (λ n. Some (Some (index_key n))) (let z : 0 + m ≡ m = omega arith in z)));
      each_key = λ k h.
          let has = some_of (finite_map.get (placed (index_keys 0 entries) v 0) k) h in
          let f = found_at (index_keys 0 entries) v 0 k has.0 has.1 in
          let at = index_stands 0 entries f.0 k f.1 in
          (f.0, at.0, at.1 ∙ ap index_key (let z : 0 + f.0 ≡ f.0 = omega arith in z));
      each_value = λ k x e.
          let f = found_at (index_keys 0 entries) v 0 k x e in
          subst (λ y. (length y ≡ value) × AreBytes y) (sym f.2) (zeros value);
    }
opening_ok (Hash key value entries) ok =
    let v : ℕ → List ℕ = λ _. replicate value 0 in
    let none = len_hash key value entries v in
    record {
      count = omega (arith, none);
      each_key = λ k h.
          let has = some_of (finite_map.get (placed (replicate entries None) v 0) k) h in
          let f = found_at (replicate entries None) v 0 k has.0 has.1 in
          absurd (none_free entries f.0 k f.1);
      each_value = λ k x e. let f = found_at (replicate entries None) v 0 k x e in absurd (none_free entries f.0 k f.1);
    }

same : (shapes : List Shape) → shapes_of (opening_maps shapes) ≡ shapes
same [] = refl
same (s ∷ shapes) = ap (λ x. s ∷ x) (same shapes)

each : (shapes : List Shape) → All IsShapeSupported shapes → AreMaps (opening_maps shapes)
each [] h = tt
each (s ∷ shapes) h = (opening_ok s (h 0 s (omega arith)), each shapes (λ k d below. h (suc k) d (omega (arith, below))))

pub opening_shapes : (shapes : List Shape) → AreShapesSupported shapes → HasShapes shapes (opening_maps shapes)
opening_shapes shapes h = record { same = same shapes; each = each shapes h.each }

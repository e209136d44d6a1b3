-- Lists of sizes that are the same.
use Rattle.std.proofs.Common.{◌≡◌, true, false, Bool, List, ap₂, eqb, ◌&&◌, Decides}
use Rattle.std.proofs.lemmas.Bool.{and_parts, and_from, eqb-true, eq-eqb}
use Rattle.std.proofs.lemmas.Slice.Eq.{slice_eq-Decides}
use Rattle.maps.specs.declared.shapes.Shape.{Shape}
use Rattle.maps.specs.declared.shapes.Shape.TheVariants.{Array, Hash}
use Rattle.maps.specs.contracts.shapes.ShapePartialEq.TheImpl.{eq-value}

shape_decides : (a b : Shape) → Decides (eq-value.it a b) (a ≡ b)
shape_decides (Array v e) (Array w f) = (
  λ t. let b = and_parts (eqb v w) (eqb e f) t in ap₂ (λ x y. Array x y) (eqb-true v w b.0) (eqb-true e f b.1),
  λ p. let v_is : v ≡ w = cc in let e_is : e ≡ f = cc in and_from (eqb v w) (eqb e f) (eq-eqb v w v_is) (eq-eqb e f e_is),
)
shape_decides (Array v e) (Hash k w f) = (λ t. absurd (let b : false ≡ true = t in cc), λ p. absurd cc)
shape_decides (Hash k v e) (Array w f) = (λ t. absurd (let b : false ≡ true = t in cc), λ p. absurd cc)
shape_decides (Hash k v e) (Hash l w f) = (
  λ t. let b = and_parts (eqb k l) (eqb v w && eqb e f) t in let d = and_parts (eqb v w) (eqb e f) b.1 in all_three (eqb-true k l b.0) (eqb-true v w d.0) (eqb-true e f d.1),
  λ p.
      let k_is : k ≡ l = cc in let v_is : v ≡ w = cc in let e_is : e ≡ f = cc in
      and_from (eqb k l) (eqb v w && eqb e f) (eq-eqb k l k_is) (and_from (eqb v w) (eqb e f) (eq-eqb v w v_is) (eq-eqb e f e_is)),
)
  where
    all_three : k ≡ l → v ≡ w → e ≡ f → Hash k v e ≡ Hash l w f
    all_three a b d i = Hash (a i) (b i) (d i)

pub same_shapes : (xs ys : List Shape) (r : Bool) → r ≡ lib.Pointwise.pointwise eq-value.it xs ys → Decides r (xs ≡ ys)
same_shapes = slice_eq-Decides shape_decides

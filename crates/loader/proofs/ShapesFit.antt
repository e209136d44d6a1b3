-- What a store's maps are, from the limits of each and of all together.
use Rattle.maps.specs.declared.shapes.MapLimits.{MapLimits}
use Rattle.std.proofs.Common.{◌≡◌, ◌<◌, true, false, leb, ltb, List, [], ◌∷◌, ◌++◌, length, Err, refl, arith, sum_by}
use Rattle.std.specs.List.{All, AllByRecursion}
use Rattle.std.proofs.lemmas.List.Elements.{All-push, All-weaker}
use Rattle.std.proofs.lemmas.Bool.{leb-true, and_parts, false_from_ne_true}
use Rattle.std.proofs.lemmas.List.{length_push}
use Rattle.maps.specs.declared.shapes.Shape.{Shape}
use Rattle.maps.specs.declared.shapes.TheConstants.{MAX_MAPS}
use Rattle.maps.specs.Shapes.{room_of, IsShapeWithin, IsShapeSupported, AreShapesWithin, AreShapesSupported, AreLimits}
use Rattle.loader.specs.declared.refusals.LoadFault.TheVariants as faults
use Rattle.loader.specs.CatalogueView.{CatalogueView}
use Rattle.loader.specs.Loading.{are_few, with_map}
use Rattle.loader.specs.PartialView.{IsPartial}

-- maps within their limits are what a store may have, where there are some, and few
pub shapes_are_within : (l : MapLimits) (ss : List Shape) → 0 < length ss → All (IsShapeWithin l) ss → are_few l ss ≡ true → AreShapesWithin l ss
shapes_are_within l ss some within few =
    let both = and_parts (leb (length ss) MAX_MAPS) (leb (sum_by room_of ss) l.bytes) few in
    record { many = (omega (arith, some), leb-true _ _ both.0); each = within; room = leb-true _ _ both.1 }

supported : (l : MapLimits) → AreLimits l → (s : Shape) → IsShapeWithin l s → IsShapeSupported s
supported l ok s h =
    let key = ok.key in
    let value = ok.value in
    let entries = ok.entries in
    record { key = (h.key.0, omega (arith, h.key.1, key.1)); value = (h.value.0, omega (arith, h.value.1, value)); entries = (h.entries.0, omega (arith, h.entries.1, entries)) }

-- and so by the widest limits
pub shapes_are_ok : (l : MapLimits) (ss : List Shape) → AreLimits l → 0 < length ss → All (IsShapeWithin l) ss → are_few l ss ≡ true → AreShapesSupported ss
shapes_are_ok l ss ok some within few =
    let h = shapes_are_within l ss some within few in
    let bytes = ok.bytes in
    record { many = h.many; each = All-weaker (IsShapeWithin l) IsShapeSupported (supported l ok) ss within; room = omega (arith, h.room, bytes) }

pub all_push : {X : Type 0} (P : X → Type 0) (xs : List X) (y : X) → AllByRecursion P xs → P y → AllByRecursion P (xs ++ y ∷ [])
all_push P [] y h p = (p, tt)
all_push P (x ∷ xs) y h p = (h.0, all_push P xs y h.1 p)

-- a map that goes past the limits
pub too_many : (l : MapLimits) (v : CatalogueView) (s : Shape) → ltb 0 (length v.programs) ≡ false → IsPartial l v → IsShapeWithin l s → (AreShapesWithin l (v.shapes ++ s ∷ []) → ⊥) → with_map l v s ≡ Err faults.TooMany
unfolding with_map
too_many l v s none so_far within bad =
    let some : 0 < length (v.shapes ++ s ∷ []) = omega (arith, length_push v.shapes s) in
    let off : are_few l (v.shapes ++ s ∷ []) ≡ false = false_from_ne_true _ (λ few. bad (shapes_are_within l _ some (All-push (IsShapeWithin l) v.shapes s so_far.within within) few)) in
    rw (none, off) refl

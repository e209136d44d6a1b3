-- What a line does to what stands above the next.
use Rattle.std.proofs.Common.{◌≡◌, ℕ, ◌<◌, Bool, true, false, leb, ◌&&◌, List, [], ◌∷◌, ◌++◌, length, Option, Some, None, refl, sym, subst, ◌∙◌, arith, sum_by}
use Rattle.std.specs.Prelude.{slice_get, MatchOption, if◌then◌else◌}
use Rattle.std.proofs.lemmas.List.Elements.{All-push}
use Rattle.std.proofs.lemmas.Bool.{le-leb}
use Rattle.std.proofs.lemmas.List.{length_push}
use Rattle.maps.specs.declared.shapes.Shape.{Shape}
use Rattle.maps.specs.declared.shapes.MapLimits.{MapLimits}
use Rattle.maps.specs.declared.shapes.TheConstants.{MAX_MAPS}
use Rattle.maps.specs.Shapes.{room_of, AreLimits, IsShapeWithin, AreShapesWithin}
use Rattle.loader.specs.declared.refusals.LoadFault.{LoadFault}
use Rattle.loader.specs.declared.refusals.LoadFault.TheVariants.{BadLine, TooMany}
use Rattle.loader.specs.Loading.{are_few}
use Rattle.loader.specs.Refusal.{fault_number}
use Rattle.loader.proofs.Export.{shapes_are_within}
use Rattle.explain.specs.Explanation.{IsWithin, TakesMap}
use Rattle.explain.specs.Manifest.{Above, map_fault}

-- ---- what is wrong with a map

-- where there is no first, there is none
pub first_none : {X : Type 0} (xs : List X) → slice_get xs 0 ≡ None → length xs ≡ 0
first_none [] none = refl
first_none (x ∷ xs) none = absurd cc

pub behind_program : (l : MapLimits) (a : Above) (s : Shape) → 0 < length a.names → map_fault l a s ≡ Some BadLine
behind_program l a s some = rw (le-leb 1 _ some) refl

few_when : (b c : Bool) → b ≡ true → c ≡ true → (b && c) ≡ true
few_when true c p q = q
few_when false c p q = absurd cc

pub no_truth : false ≡ true → ⊥
no_truth e = absurd cc

abbrev no_rule : Option ℕ
no_rule = None

by_bool : (b : Bool) → (b ≡ true → ⊥) → b ≡ false
by_bool true h = absurd (h refl)
by_bool false h = refl

few_of : (l : MapLimits) (ss : List Shape) → AreShapesWithin l ss → are_few l ss ≡ true
few_of l ss ok =
    few_when (leb (length ss) MAX_MAPS) (leb (sum_by room_of ss) l.bytes) (le-leb (length ss) MAX_MAPS ok.many.1) (le-leb (sum_by room_of ss) l.bytes ok.room)

pub taken : (l : MapLimits) (a : Above) (s : Shape) → length a.names ≡ 0 → are_few l (a.shapes ++ s ∷ []) ≡ true
    → map_fault l a s ≡ None
taken l a s none few = rw (none, few) refl

pub takes_map : (l : MapLimits) (a : Above) (s : Shape) → AreLimits l → length a.names ≡ 0 → AreShapesWithin l (a.shapes ++ s ∷ []) → TakesMap l a s (record a { shapes = a.shapes ++ s ∷ [] }) None
takes_map l a s are none ok =
    let after : Above = record a { shapes = a.shapes ++ s ∷ [] } in
    record {
      told =
          subst (λ r. MatchOption r ((no_rule ≡ None) × (after ≡ record a { shapes = a.shapes ++ s ∷ [] })) (λ why. (None ≡ Some (fault_number why)) × (after ≡ a)))
          (sym (taken l a s none (few_of l _ ok))) (refl, refl);
      within = record { limits_are = are; each = ok.each; few = few_of l _ ok };
    }

pub too_many : (l : MapLimits) (a : Above) (s : Shape) → length a.names ≡ 0 → IsWithin l a → IsShapeWithin l s
    → (AreShapesWithin l (a.shapes ++ s ∷ []) → ⊥) → map_fault l a s ≡ Some TooMany
too_many l a s none within ok bad =
    let some : 0 < length (a.shapes ++ s ∷ []) = omega (arith, length_push a.shapes s) in
    let off : are_few l (a.shapes ++ s ∷ []) ≡ false = by_bool _ (λ few. bad (shapes_are_within l _ some (All-push (IsShapeWithin l) a.shapes s within.each ok) few)) in
    rw (none, off) refl

pub refuses_map : (l : MapLimits) (a : Above) (s : Shape) (why : LoadFault) → IsWithin l a
    → map_fault l a s ≡ Some why → TakesMap l a s a (Some (fault_number why))
refuses_map l a s why within is =
    record {
      told =
          subst
          (λ r. MatchOption r ((Some (fault_number why) ≡ None) × (a ≡ record a { shapes = a.shapes ++ s ∷ [] })) (λ e. (Some (fault_number why) ≡ Some (fault_number e)) × (a ≡ a)))
          (sym is) (refl, refl);
      within = within;
    }

-- ---- what is told of a line, and what then stands above

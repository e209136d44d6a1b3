use Rattle.std.proofs.Common.{◌≡◌, ℕ, ◌<◌, ◌≤◌, true, List, length, refl, arith}
use Rattle.std.specs.Prelude.{sum_by, All, Some, None}
use Rattle.std.specs.List.{list_all}
use Rattle.std.proofs.lemmas.Bool.{and_from, le-leb, lt-ltb, le-ltb}
use Rattle.std.proofs.lemmas.Grind.{common_steps}
use Rattle.std.proofs.lemmas.List.Elements.{All-weaker}
use Rattle.std.proofs.lemmas.List.Sums.{list_all-from_AllPass}
use Rattle.maps.specs.declared.shapes.Shape.{Shape}
use Rattle.maps.specs.declared.shapes.ShapeFault.TheVariants.{TooManyBytes}
use Rattle.maps.specs.declared.shapes.MapLimits.{MapLimits}
use Rattle.maps.specs.Shapes.{IsShapeWithin, is_between, has_sizes, room_of, key_size, value_size, entry_count, first_fault_within}
use Rattle.maps.proofs.shapes.shapes_within.Goals as goal

between : (low high n : ℕ) → (low ≤ n) × (n ≤ high) → is_between low high n ≡ true
between low high n h = and_from _ _ (le-leb low n h.0) (le-leb n high h.1)

pass : (l : MapLimits) (s : Shape) → IsShapeWithin l s → has_sizes l s ≡ true
pass l s h = and_from _ _ (between 1 l.key (key_size s) h.key) (and_from _ _ (between 1 l.value (value_size s) h.value) (between 1 l.entries (entry_count s) h.entries))

all_pass : (l : MapLimits) (shapes : List Shape) → All (IsShapeWithin l) shapes → list_all (has_sizes l) shapes ≡ true
all_pass l shapes h = list_all-from_AllPass (has_sizes l) shapes (All-weaker (IsShapeWithin l) (λ s. has_sizes l s ≡ true) (pass l) shapes h)

too_big : (l : MapLimits) (shapes : List Shape) → (1 ≤ length shapes) × (length shapes ≤ 16) → All (IsShapeWithin l) shapes → l.bytes < sum_by room_of shapes → first_fault_within l shapes ≡ Some TooManyBytes
too_big l shapes many each big = rw (between 1 16 (length shapes) many, all_pass l shapes each, lt-ltb l.bytes (sum_by room_of shapes) big) refl

good : (l : MapLimits) (shapes : List Shape) → (1 ≤ length shapes) × (length shapes ≤ 16) → All (IsShapeWithin l) shapes → sum_by room_of shapes ≤ l.bytes → first_fault_within l shapes ≡ None
good l shapes many each small = rw (between 1 16 (length shapes) many, all_pass l shapes each, le-ltb l.bytes (sum_by room_of shapes) small) refl

pub returns-then-total_room-limits-clause-first : goal.returns-then-total_room-limits-clause-first
returns-then-total_room-limits-clause-first c =
    let each : All (IsShapeWithin c.args.limits.now) c.args.shapes.now = grind (arith, common_steps) in
    let some : 1 ≤ length c.args.shapes.now = grind (arith, common_steps) in
    too_big c.args.limits.now c.args.shapes.now (some, omega arith) each (omega arith)

pub returns-clause-first : goal.returns-clause-first
returns-clause-first c =
    let each : All (IsShapeWithin c.args.limits.now) c.args.shapes.now = grind (arith, common_steps) in
    let some : 1 ≤ length c.args.shapes.now = grind (arith, common_steps) in
    good c.args.limits.now c.args.shapes.now (some, omega arith) each (omega arith)

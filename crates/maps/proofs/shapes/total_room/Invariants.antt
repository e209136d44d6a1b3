use Rattle.std.proofs.Common.{◌≡◌, ◌≤◌, ◌*◌, take, sum_by}
use Rattle.maps.specs.Shapes.{room_of}
use Rattle.maps.proofs.shapes.total_room.Given as goal

abbrev pub invariant-loop-shape : goal.invariant-loop-shape
invariant-loop-shape l = (l.total ≡ sum_by room_of (take l.shape-index l.shapes)) × (l.total ≤ 35321811042304 * l.shape-index)

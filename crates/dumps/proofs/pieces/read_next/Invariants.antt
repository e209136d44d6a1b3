use Rattle.std.proofs.Common.{◌≡◌, ◌≤◌, ◌++◌, drop, length, take}
use Rattle.dumps.specs.Pieces.{left_text, rows_left, rows_of}
use Rattle.dumps.proofs.pieces.read_next.Given as goal

abbrev pub invariant-loop-room : goal.invariant-loop-room
invariant-loop-room l =
    (l.at ≤ length l.room) × (l.next.byte ≤ length l.lines)
    × (left_text l.maps (rows_of l.tables.items) l.lines l.initial.next ≡ take l.at l.room ++ left_text l.maps (rows_of l.tables.items) l.lines l.next)
    × (drop l.at l.room ≡ drop l.at l.initial.room)

abbrev pub decreases-loop-room : goal.decreases-loop-room
decreases-loop-room l = rows_left (rows_of l.tables.items) l.next.map l.next.row

use Rattle.std.proofs.Common.{◌≡◌, ◌-◌, ◌≤◌, length}
use Rattle.maps.specs.MapSets.{Contents}
use Rattle.dumps.specs.Pieces.{left_in, rows_left, rows_of}
use Rattle.dumps.proofs.pieces.next_row.Given as goal

abbrev pub invariant-loop-next : goal.invariant-loop-next
invariant-loop-next l =
    ((c : Contents) → left_in c (rows_of l.tables.items) l.initial.next.map l.initial.next.row ≡ left_in c (rows_of l.tables.items) l.next.map l.next.row) × (l.next.byte ≡ l.initial.next.byte)
    × (rows_left (rows_of l.tables.items) l.next.map l.next.row ≤ rows_left (rows_of l.tables.items) l.initial.next.map l.initial.next.row)

abbrev pub decreases-loop-next : goal.decreases-loop-next
decreases-loop-next l = length l.tables.items - l.next.map

use Rattle.std.proofs.Common.{◌≡◌, ◌-◌, ◌≤◌, length}
use Rattle.maps.specs.Blocks.{stored}
use Rattle.maps.specs.Scans.{given, entries_from}
use Rattle.maps.proofs.table.Table.scan.Given as goal

abbrev pub invariant-loop-place : goal.invariant-loop-place
invariant-loop-place l =
    (given l.self.shape l.count l.keys l.values ≡ entries_from (stored l.self) l.from (l.place - l.from))
    × (l.from ≤ l.place)
    × (l.place ≤ l.end)
    × (l.count ≤ l.room)
    × (length l.keys ≡ length l.initial.keys)
    × (length l.values ≡ length l.initial.values)

abbrev pub decreases-loop-place : goal.decreases-loop-place
decreases-loop-place l = l.end - l.place

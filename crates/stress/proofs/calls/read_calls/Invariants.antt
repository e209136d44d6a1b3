use Rattle.std.proofs.Common.{◌≡◌, length, map, All}
use Rattle.text.specs.Lines.{lines_of}
use Rattle.stress.specs.Calls.{script_calls}
use Rattle.stress.proofs.Script.{before}
use Rattle.stress.specs.Playing.{IsReady}
use Rattle.replica.specs.Refusals.{IsRoomFor}
use Rattle.stress.specs.Shown.{called}
use Rattle.stress.proofs.calls.read_calls.Given as goal

abbrev pub invariant-loop-number : goal.invariant-loop-number
invariant-loop-number l =
    (before (map called l.calls.items) (script_calls l.catalogue l.lines.number l.lines.lines) ≡ script_calls l.catalogue 1 (lines_of l.script)) × All (IsReady l.catalogue) l.calls.items
    × IsRoomFor l.catalogue.shapes l.catalogue.long l.room

abbrev pub decreases-loop-number : goal.decreases-loop-number
decreases-loop-number l = length l.lines.lines

use Rattle.std.proofs.Common.{◌≡◌, length}
use Rattle.encoding.specs.DecodeShown.{shown_layouts}
use Rattle.encoding.specs.Layouts.{layouts_from, layouts_of}
use Rattle.encoding.proofs.layouts.read_layouts.Given as goal

abbrev pub invariant-loop-number : goal.invariant-loop-number
invariant-loop-number l = layouts_from l.lines.number (shown_layouts l.layouts.items) l.lines.lines ≡ layouts_of l.text

abbrev pub decreases-loop-number : goal.decreases-loop-number
decreases-loop-number l = length l.lines.lines

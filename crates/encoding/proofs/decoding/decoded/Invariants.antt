use Rattle.std.proofs.Common.{◌≡◌, length}
use Rattle.text.specs.Lines.{lines_of}
use Rattle.encoding.specs.Decoded.{decoded_from, onto}
use Rattle.encoding.specs.DecodeShown.{shown_layouts}
use Rattle.encoding.proofs.decoding.decoded.Given as goal

abbrev pub invariant-loop-number : goal.invariant-loop-number
invariant-loop-number l = onto l.out.items (decoded_from (shown_layouts l.layouts) l.lines.number l.lines.lines) ≡ decoded_from (shown_layouts l.layouts) 1 (lines_of l.state)

abbrev pub decreases-loop-number : goal.decreases-loop-number
decreases-loop-number l = length l.lines.lines

use Rattle.std.proofs.Common.{◌≡◌, ◌++◌, length}
use Rattle.std.specs.List.{flat_map}
use Rattle.text.specs.Lines.{lines_of}
use Rattle.running.specs.Signed.{signed_line}
use Rattle.running.proofs.signed_texts.signed_lines.Given as goal

abbrev pub invariant-loop-line : goal.invariant-loop-line
invariant-loop-line l = l.out.items ++ flat_map signed_line l.lines.lines ≡ flat_map signed_line (lines_of l.text)

abbrev pub decreases-loop-line : goal.decreases-loop-line
decreases-loop-line l = length l.lines.lines

use Rattle.std.proofs.Common.{◌≡◌, length}
use Rattle.std.specs.Prelude.{string_bytes}
use Rattle.encoding.specs.Encoded.{onto, encoded_from, encoded_text}
use Rattle.encoding.proofs.lines.encode.Given as goal

abbrev pub invariant-loop-line : goal.invariant-loop-line
invariant-loop-line l = onto (string_bytes l.out) (encoded_from l.lines.number l.lines.lines) ≡ encoded_text l.text

abbrev pub decreases-loop-line : goal.decreases-loop-line
decreases-loop-line l = length l.lines.lines

use Rattle.std.proofs.Common.{length}
use Rattle.std.specs.Prelude.{option_map}
use Rattle.std.specs.String.{string_bytes}
use Rattle.text.specs.Lines.{lines_of}
use Rattle.loader.specs.ProgramFiles.{files_of}
use Rattle.explain.proofs.Graphs.{SoFar}
use Rattle.explain.proofs.files.graph.put_lines.Given as goal

abbrev pub invariant-loop-number : goal.invariant-loop-number
invariant-loop-number l =
    SoFar l.fn.limits (files_of l.fn.files) (option_map (λ n. n.now) l.fn.name) (lines_of l.manifest) (string_bytes l.initial.out) l.lines.number l.lines.lines (string_bytes l.out)

abbrev pub decreases-loop-number : goal.decreases-loop-number
decreases-loop-number l = length l.lines.lines

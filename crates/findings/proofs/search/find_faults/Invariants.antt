use Rattle.std.proofs.Common.{length}
use Rattle.std.specs.Prelude.{option_map}
use Rattle.loader.specs.ProgramFiles.{files_of}
use Rattle.findings.proofs.Lines.{SoFar}
use Rattle.findings.proofs.search.find_faults.Given as goal

abbrev pub invariant-loop-number : goal.invariant-loop-number
invariant-loop-number l = SoFar l.fn.limits (files_of l.fn.files) (option_map (λ n. n.now) l.fn.name) l.manifest l.search l.lines.number l.lines.lines l.found.items

abbrev pub decreases-loop-number : goal.decreases-loop-number
decreases-loop-number l = length l.lines.lines

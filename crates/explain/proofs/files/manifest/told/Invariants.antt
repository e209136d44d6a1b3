use Rattle.std.proofs.Common.{length}
use Rattle.std.specs.Prelude.{option_map}
use Rattle.std.specs.String.{string_bytes}
use Rattle.loader.specs.ProgramFiles.{files_of}
use Rattle.explain.proofs.Manifests.{SoFar}
use Rattle.explain.proofs.files.manifest.told.Given as goal

abbrev pub invariant-loop-number : goal.invariant-loop-number
invariant-loop-number l = SoFar l.fn.limits (files_of l.fn.files) (option_map (λ n. n.now) l.fn.name) l.manifest l.explanation l.lines.number l.lines.lines (string_bytes l.out)

abbrev pub decreases-loop-number : goal.decreases-loop-number
decreases-loop-number l = length l.lines.lines

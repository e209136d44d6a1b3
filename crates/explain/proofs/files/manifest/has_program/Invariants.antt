use Rattle.std.proofs.Common.{◌≡◌, length, Some}
use Rattle.std.specs.List.{list_any}
use Rattle.loader.specs.Grammar.{line_meaning}
use Rattle.explain.specs.Manifest.{has_program, is_asked}
use Rattle.explain.proofs.files.manifest.has_program.Given as goal

abbrev pub invariant-loop-line : goal.invariant-loop-line
invariant-loop-line l = list_any (λ x. is_asked (Some l.name) (line_meaning l.fn.limits x)) l.lines.lines ≡ has_program l.fn.limits l.name l.manifest

abbrev pub decreases-loop-line : goal.decreases-loop-line
decreases-loop-line l = length l.lines.lines

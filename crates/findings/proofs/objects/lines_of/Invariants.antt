use Rattle.std.proofs.Common.{◌≡◌, ◌++◌, drop}
use Rattle.std.specs.List.{flat_map}
use Rattle.findings.specs.Objects.{object_line}
use Rattle.findings.proofs.objects.lines_of.Given as goal

abbrev pub invariant-loop-finding : goal.invariant-loop-finding
invariant-loop-finding l = l.text.items ++ flat_map object_line (drop l.finding-index l.found) ≡ flat_map object_line l.found

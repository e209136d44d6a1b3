use Rattle.std.proofs.Common.{◌≡◌, ◌++◌, length, map}
use Rattle.std.specs.List.{filter_map}
use Rattle.loader.specs.NamedFiles.{file_field, named_in}
use Rattle.loader.proofs.file_names.named_files.Given as goal

abbrev pub invariant-loop-line : goal.invariant-loop-line
invariant-loop-line l = map (λ t. t.now) l.names.items ++ filter_map file_field l.lines.lines ≡ named_in l.manifest

abbrev pub decreases-loop-line : goal.decreases-loop-line
decreases-loop-line l = length l.lines.lines

use Rattle.std.proofs.Common.{◌≡◌, drop}
use Rattle.engine.specs.Memory.{found_file}
use Rattle.engine.proofs.in_memory.HeldFilesFolder.open.Given as goal

abbrev pub invariant-loop-file : goal.invariant-loop-file
invariant-loop-file l = found_file (drop l.file-index l.all) l.name ≡ found_file l.all l.name

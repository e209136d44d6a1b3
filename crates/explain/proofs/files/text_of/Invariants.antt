use Rattle.std.proofs.Common.{◌≡◌, drop, map}
use Rattle.loader.specs.ProgramFiles.{file_named}
use Rattle.explain.proofs.files.text_of.Given as goal

abbrev pub invariant-loop-file : goal.invariant-loop-file
invariant-loop-file l = file_named (map (λ f. (f.0.now, f.1.now)) (drop l.file-index l.files)) l.name ≡ file_named (map (λ f. (f.0.now, f.1.now)) l.files) l.name

use Rattle.std.proofs.Common.{◌≡◌, take}
use Rattle.loader.specs.ProgramFiles.{files_of}
use Rattle.engine.specs.Reading.{named_texts}
use Rattle.engine.proofs.reading.lent.Given as goal

abbrev pub invariant-loop-file : goal.invariant-loop-file
invariant-loop-file l = files_of l.all.items ≡ named_texts (take l.file-index l.files)

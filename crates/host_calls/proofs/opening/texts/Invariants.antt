use Rattle.std.specs.Prelude.{◌≡◌, take}
use Rattle.loader.specs.ProgramFiles.{files_of}
use Rattle.host_calls.specs.Openings.{AreUtf8, texts_of}
use Rattle.host_calls.proofs.opening.texts.Given as goal

abbrev pub invariant-loop-k : goal.invariant-loop-k
invariant-loop-k l = record { texts : files_of l.texts.items ≡ texts_of (take l.k l.initial.files); clear : AreUtf8 (take l.k l.initial.files) }

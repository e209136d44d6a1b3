use Rattle.std.proofs.Common.{drop, map}
use Rattle.std.specs.Prelude.{IfSome}
use Rattle.loader.specs.NamedFiles.{named_in}
use Rattle.engine.specs.Reading.{named_texts}
use Rattle.engine.proofs.GatheredFiles.{Kept, name_of}
use Rattle.engine.proofs.InTurn.{Fails}
use Rattle.engine.proofs.reading.gather_files.Given as goal

abbrev pub invariant-loop-name : goal.invariant-loop-name
invariant-loop-name g l =
    IfSome (g.F.Folder.holds l.folder) (λ h. Kept h (named_texts l.files.items) (map name_of (drop l.name-index l.name-items)) (named_in l.manifest))
    × (Fails (g.F.Folder.can_fail l.folder) (g.F.Folder.holds l.folder) (map name_of (drop l.name-index l.name-items)) → Fails (g.F.Folder.can_fail l.folder) (g.F.Folder.holds l.folder) (named_in l.manifest))

use Rattle.loader.specs.NamedFiles.{named_in}
use Rattle.engine.proofs.GatheredFiles.{gathered}
use Rattle.engine.proofs.reading.gather_files.Goals as goal

pub returns-clause-gathered : goal.returns-clause-gathered
returns-clause-gathered g c =
    gathered (named_in c.args.manifest.now) c.deref-name-items.result.now c.loop-name.name-index c.loop-name.files.items (g.F.Folder.holds c.args.folder.now) c.loop-name-test.false c.loop-name.invariant.0

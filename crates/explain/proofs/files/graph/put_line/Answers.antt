use Rattle.std.proofs.Common.{None, refl}
use Rattle.loader.specs.ProgramFiles.{files_of}
use Rattle.explain.specs.Graph.{DrawsLine}
use Rattle.explain.proofs.Texts.{adds_nothing}
use Rattle.explain.proofs.files.graph.put_line.Goals as goal

pub returns-in-Some : goal.returns-in-Some
returns-in-Some c = rw c.in-Some.is c.put_named.ensures

pub returns-in-None : goal.returns-in-None
returns-in-None c = rw c.in-None.is (adds_nothing (DrawsLine (files_of c.args.files.now) c.args.number None) _ refl)

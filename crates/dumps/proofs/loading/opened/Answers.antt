use Rattle.std.proofs.Common.{◌∙◌, ap}
use Rattle.maps.proofs.Export.{stored_are}
use Rattle.loader.specs.Installed.{InstalledView}
use Rattle.dumps.proofs.loading.opened.Goals as goal

pub returns-clause-sizes : goal.returns-clause-sizes
returns-clause-sizes c = record { maps = stored_are _ ∙ c.in_ok-maps.ensures.shapes.same ∙ c.shapes-shapes.ensures.shapes; programs = ap (λ (v : InstalledView). v.shapes) c.in_ok-installed.ensures.none ∙ c.shapes-shapes.ensures.shapes; long = ap (λ (v : InstalledView). v.long) c.in_ok-installed.ensures.none ∙ c.long.ensures.long; each = c.in_ok-maps.ensures.shapes.each }

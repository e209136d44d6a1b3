use Rattle.std.proofs.Common.{take, sym, ap, ◌∙◌, arith}
use Rattle.std.specs.Prelude.{slice_get}
use Rattle.std.proofs.lemmas.Option.{slice_get_past}
use Rattle.loader.specs.Installed.{InstalledView, all_checked}
use Rattle.loader.proofs.Installing.{first_count, fits_there}
use Rattle.loader.proofs.installed.Installed.program.Goals as goal

pub returns-then-k-self-clause-accepted : goal.returns-then-k-self-clause-accepted
returns-then-k-self-clause-accepted c =
    let below = c.if-k-self.true in
    fits_there c.self.inside.shapes.items c.self.inside.rooms.items c.self.inside.count c.args.k c.index.result.now c.self.invariant.0.accepted c.self.invariant.1 (omega (arith, below)) c.index.ensures
    ∙ ap (λ (v : InstalledView). v.shapes) c.self.view_is

pub returns-else-k-self-clause-program : goal.returns-else-k-self-clause-program
returns-else-k-self-clause-program c =
    let programs = all_checked (take c.self.inside.count c.self.inside.rooms.items) in
    let count = first_count c.self.inside.rooms.items c.self.inside.count c.self.invariant.1 in
    let past = c.if-k-self.false in
    sym (slice_get_past programs c.args.k (omega (arith, count, past))) ∙ ap (λ (v : InstalledView). slice_get v.programs c.args.k) c.self.view_is

use Rattle.engine.specs.Reading.{read}
use Rattle.engine.proofs.Export.{given_so}
use Rattle.stress.specs.Left.{MayLeave}
use Rattle.stress.specs.Runs.{MayMake}
use Rattle.stress.proofs.command.Stress.prepare_left.Goals as goal

pub returns-in-Ok-clause-known : goal.returns-in-Ok-clause-known
returns-in-Ok-clause-known g c =
    given_so g.F.Folder.holds g.S.Source.remaining c.args.inputs.now (λ it. MayMake c.args.self.now (read it) c.in_ok-stressed.stressed)
    (λ it. MayLeave c.args.self.now c.args.to (read it) c.in-Ok.left)
    (λ it may. (c.in_ok-stressed.stressed, may, c.in-Ok.ensures)) c.in_ok-stressed.ensures.known

pub returns-in-Ok-clause-some : goal.returns-in-Ok-clause-some
returns-in-Ok-clause-some g c =
    let some = c.in_ok-stressed.ensures.some in
    (some.0, (c.in_ok-stressed.stressed, some.1, c.in-Ok.ensures))

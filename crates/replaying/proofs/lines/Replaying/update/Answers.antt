use Rattle.std.proofs.Common.{◌≡◌, rules}
use Rattle.oplog.specs.Logs.{tail_of}
use Rattle.replaying.proofs.Replays.{submitted}
use Rattle.replaying.proofs.lines.Replaying.update.Goals as goal

pub returns-in-Some-clause-compared : goal.returns-in-Some-clause-compared
returns-in-Some-clause-compared c =
    let at_tail : c.args.index ≡ tail_of c.args.self.now.node.log = search rules in
    λ at has.
    submitted c.args.catalogue.now at c.args.op.now c.args.index c.args.reply c.args.self.now has
    c.apply-outcome.new.self at_tail c.in-Some.outcome c.in-Some.ensures.updated c.apply-outcome.ensures.counts.0 c.apply-outcome.ensures.counts.1

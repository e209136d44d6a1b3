use Rattle.std.proofs.Common.{rules, ◌≡◌, sym, subst}
use Rattle.oplog.specs.History.{AllFit}
use Rattle.combiner.specs.Desks.{BatchView}
use Rattle.node.specs.declared.parts.NodeBatch.TheVariants.{Held}
use Rattle.schedule.proofs.Fitting.{requests_fit}
use Rattle.schedule.proofs.nodes.Node.append.Goals as goal

pub append-requires-clause-fit : goal.append-requires-clause-fit
append-requires-clause-fit c =
    let b : BatchView = c.self-inside.inside.0.1.1.0.requests in
    let is_b : c.args.self.now.batch ≡ Held b = search rules in
    subst (λ rs. AllFit c.args.log.now.long rs) (sym c.records-records.ensures.records) (requests_fit c.requires.own.1 b is_b)

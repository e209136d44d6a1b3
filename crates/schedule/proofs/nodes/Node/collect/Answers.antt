use Rattle.std.proofs.Common.{sym, subst}
use Rattle.schedule.specs.Taking.{IsOfStore}
use Rattle.schedule.proofs.Owned.{countable}
use Rattle.schedule.proofs.nodes.Node.collect.Goals as goal

pub collect-requires-clause-countable : goal.collect-requires-clause-countable
collect-requires-clause-countable c = λ x at. countable (subst (λ v. IsOfStore c.requires.own.0 c.requires.own.1 v) (sym c.self.view_is) c.requires.own.2) c.args.slot x at

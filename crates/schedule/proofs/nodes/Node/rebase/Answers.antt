use Rattle.std.proofs.Common.{sym, subst}
use Rattle.schedule.specs.Taking.{IsOfStore}
use Rattle.schedule.proofs.Owned.{same_sizes}
use Rattle.schedule.proofs.nodes.Node.rebase.Goals as goal

pub rebase-requires-clause-sizes : goal.rebase-requires-clause-sizes
rebase-requires-clause-sizes c = same_sizes (subst (λ v. IsOfStore c.requires.own.0 c.args.log.now v) (sym c.self.view_is) c.requires.own.1)

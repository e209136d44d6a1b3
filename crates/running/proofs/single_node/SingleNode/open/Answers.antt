use Rattle.std.proofs.Common.{rules}
use Rattle.running.proofs.Opened.{steady_at}
use Rattle.running.proofs.single_node.SingleNode.open.Goals as goal

pub returns-clause-steady : goal.returns-clause-steady
returns-clause-steady c =
    steady_at c.args.catalogue.now (search rules) _ _ _ _ _ _ c.args.limit (search rules) (search rules) (search rules) (search rules) (search rules)

use Rattle.store_steps.specs.Shelving.{IsOpenedReplica}
use Rattle.store.proofs.Filled.{grown}
use Rattle.store.proofs.opening.push_replicas.Goals as goal

pub loop-node-preserved : goal.loop-node-preserved
loop-node-preserved c =
    record { grown = grown c.args.values.now.items c.loop-node.values.items c.push.new.self.items c.loop-node._node c.in_ok-shelved_replica.field-0 (λ i v. IsOpenedReplica c.args.catalogue.now c.args.config.now.window v) c.in_ok-push.ensures.items c.loop-node.invariant.grown c.in_ok-shelved_replica.ensures.replica }

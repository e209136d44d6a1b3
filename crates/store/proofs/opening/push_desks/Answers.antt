use Rattle.store.specs.Places.{IsOpenedDesk}
use Rattle.store.proofs.Filled.{grown}
use Rattle.store.proofs.opening.push_desks.Goals as goal

pub loop-node-preserved : goal.loop-node-preserved
loop-node-preserved c =
    record { grown = grown c.args.values.now.items c.loop-node.values.items c.push.new.self.items c.loop-node.node c.in_ok-shelved_desk.field-0 (λ i v. IsOpenedDesk c.args.slots i v) c.in_ok-push.ensures.items c.loop-node.invariant.grown c.in_ok-shelved_desk.ensures.desk }

use Rattle.std.proofs.Common.{sym, subst}
use Rattle.std.specs.Prelude.{OnOk}
use Rattle.oplog.specs.Operations.{Operation}
use Rattle.oplog.specs.declared.records.Op.TheVariants.{Run}
use Rattle.replica.specs.StoreMeaning.{call_of}
use Rattle.running.specs.RunAnswer.{performed}
use Rattle.running.specs.Running.{IsTaken, IsUpdated}
use Rattle.running.proofs.Turns.{update_turn}
use Rattle.running.proofs.single_node.SingleNode.perform.Goals as goal

pub returns-in-Some-clause-taken : goal.returns-in-Some-clause-taken
returns-in-Some-clause-taken c = λ limit h follows.
    let op = Run (call_of c.args.program c.args.argument.now) in
    let updated = subst (λ (o : Operation). IsUpdated c.args.catalogue.now o c.args.self.now c.submit.new.self c.in-Some.outcome) c.run.ensures.call c.in-Some.ensures.updated in
    subst (λ mode. OnOk c.put_update.result (IsTaken limit c.args.catalogue.now (performed limit c.args.catalogue.now h op mode) c.submit.new.self c.args.out.now.items c.put_update.new.out.items)) (sym c.in-Update.is)
    (update_turn limit c.args.catalogue.now h c.args.self.now follows op c.put_update.result c.tail-index.result c.submit.new.self c.in-Some.outcome
    c.args.out.now.items c.put_update.new.out.items c.tail-index.ensures updated c.put_update.ensures)

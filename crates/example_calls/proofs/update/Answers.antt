use Rattle.verifier.specs.declared.refusal.Mode.TheVariants.{Update}
use Rattle.replica.specs.Refusals.{early_refusal}
use Rattle.store_steps.specs.Views.{op_of}
use Rattle.example_calls.proofs.Told.{update_adds}
use Rattle.example_calls.proofs.update.Goals as goal

pub returns-clause-adds : goal.returns-clause-adds
returns-clause-adds g c = update_adds c.args.session.now c.invoke.new.self (op_of c.args.program c.args.argument.now)
    (early_refusal c.args.store.now.catalogue Update c.args.program c.args.argument.now) c.invoke.result
    c.invoke.ensures.early c.invoke.ensures.adds c.ok.result c.ok.ensures.value

use Rattle.verifier.specs.declared.refusal.Mode.TheVariants.{Read}
use Rattle.replica.specs.Refusals.{early_refusal}
use Rattle.store_steps.specs.Views.{op_of}
use Rattle.example_calls.proofs.Told.{read_told}
use Rattle.example_calls.proofs.read.Goals as goal

pub returns-clause-told : goal.returns-clause-told
returns-clause-told g c = read_told c.args.session.now c.read.new.self (op_of c.args.program c.args.argument.now)
    (early_refusal c.args.store.now.catalogue Read c.args.program c.args.argument.now) c.read.result
    c.read.ensures.early c.read.ensures.adds c.read.ensures.told c.ok.result c.ok.ensures.value

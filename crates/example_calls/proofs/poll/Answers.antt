use Rattle.verifier.specs.declared.refusal.Mode.TheVariants.{Update}
use Rattle.replica.specs.Refusals.{early_refusal}
use Rattle.store_steps.specs.Views.{op_of}
use Rattle.store.proofs.Export.{goes_then}
use Rattle.example_calls.proofs.Told.{polled_adds}
use Rattle.example_calls.proofs.poll.Goals as goal

pub returns-in-Ok-Some-clause-session : goal.returns-in-Ok-Some-clause-session
returns-in-Ok-Some-clause-session g c =
    goes_then c.args.store.now c.args.polled.now c.try_post.new.self c.finish.new.polled c.try_post.ensures.session
    c.finish.ensures.session

pub returns-in-Ok-Some-clause-adds : goal.returns-in-Ok-Some-clause-adds
returns-in-Ok-Some-clause-adds g c =
    let e = c.in-Ok-Some.ensures in
    polled_adds c.args.polled.now c.try_post.new.self c.finish.new.polled (op_of c.args.program c.args.argument.now)
    (early_refusal c.args.store.now.catalogue Update c.args.program c.args.argument.now)
    c.in-Ok-Some.field-0 c.in-Ok-Some.field-0-0 c.in-Ok-Some.field-0-is e.early e.adds
    c.finish.result c.finish.ensures.adds c.ok.result c.ok.ensures.value

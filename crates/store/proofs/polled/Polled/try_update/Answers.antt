use Rattle.std.proofs.Common.{rules, ◌≡◌, true, None, sym, subst}
use Rattle.verifier.specs.declared.refusal.Mode.TheVariants.{Update}
use Rattle.replica.specs.StoreMeaning.{is_operation}
use Rattle.replica.specs.Refusals.{early_refusal}
use Rattle.replica.proofs.Export.{is_asked}
use Rattle.store.proofs.polled.Polled.try_update.Goals as goal

pub ask-requires-clause-update : goal.ask-requires-clause-update
ask-requires-clause-update c =
    let none : early_refusal c.args.store.now.catalogue Update c.args.program c.args.argument.now ≡ None = search rules in
    subst (λ o. is_operation Update c.args.store.now.catalogue o ≡ true) (sym c.run-op.ensures.call)
    (is_asked Update c.args.store.now.catalogue c.args.program c.args.argument.now none c.run-op.ensures.bytes)

use Rattle.std.proofs.Common.{rules, ◌≡◌, true, None, sym, subst}
use Rattle.verifier.specs.declared.refusal.Mode.TheVariants.{Update}
use Rattle.oplog.specs.Calls.{NewProgram}
use Rattle.replica.specs.StoreMeaning.{is_operation}
use Rattle.replica.specs.Refusals.{install_refusal}
use Rattle.replica.proofs.Export.{may_install}
use Rattle.store.specs.Sessions.{new_program}
use Rattle.store.proofs.polled.Polled.try_install.Goals as goal

pub post-requires-clause-update : goal.post-requires-clause-update
post-requires-clause-update c =
    let asked : NewProgram = new_program c.args.mode c.args.arg_len c.args.bytes.now in
    let none : install_refusal c.args.store.now.catalogue.shapes c.args.store.now.catalogue.long asked ≡ None = search rules in
    subst (λ o. is_operation Update c.args.store.now.catalogue o ≡ true) (sym c.install-install.ensures.program)
    (may_install c.args.store.now.catalogue asked none c.install-install.ensures.bytes)

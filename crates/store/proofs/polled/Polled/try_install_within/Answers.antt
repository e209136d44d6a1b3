use Rattle.std.proofs.Common.{rules, ◌≡◌, true, None, sym, subst}
use Rattle.verifier.specs.declared.refusal.Mode.TheVariants.{Update}
use Rattle.replica.specs.StoreMeaning.{is_operation}
use Rattle.replica.proofs.Export.{may_install}
use Rattle.store.specs.Within.{program_within, within_refusal}
use Rattle.store.proofs.MayInstall.{installs_too}
use Rattle.store.proofs.polled.Polled.try_install_within.Goals as goal

pub post-requires-clause-update : goal.post-requires-clause-update
post-requires-clause-update c =
    let new = program_within c.args.asked in
    let none : within_refusal c.args.store.now.catalogue.shapes c.args.store.now.catalogue.long c.args.asked.maps new ≡ None = search rules in
    subst (λ o. is_operation Update c.args.store.now.catalogue o ≡ true) (sym c.install-op.ensures.program)
    (may_install c.args.store.now.catalogue new (installs_too c.args.store.now.catalogue.shapes c.args.store.now.catalogue.long c.args.asked.maps new none) c.install-op.ensures.bytes)

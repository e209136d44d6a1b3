use Rattle.std.proofs.Common.{rules, ◌≡◌, true, None, sym, subst}
use Rattle.verifier.specs.declared.refusal.Mode.TheVariants.{Update}
use Rattle.replica.specs.StoreMeaning.{is_operation}
use Rattle.replica.proofs.Export.{may_install}
use Rattle.store.specs.Within.{program_within, within_refusal}
use Rattle.store.proofs.MayInstall.{installs_too}
use Rattle.store.proofs.session.Session.install_within.Goals as goal

pub perform-requires-clause-update : goal.perform-requires-clause-update
perform-requires-clause-update g c =
    let asked = program_within c.args.wanted in
    let none : within_refusal c.args.store.now.catalogue.shapes c.args.store.now.catalogue.long c.args.wanted.maps asked ≡ None = search rules in
    subst (λ o. is_operation Update c.args.store.now.catalogue o ≡ true) (sym c.install-op.ensures.program)
    (may_install c.args.store.now.catalogue asked (installs_too c.args.store.now.catalogue.shapes c.args.store.now.catalogue.long c.args.wanted.maps asked none) c.install-op.ensures.bytes)

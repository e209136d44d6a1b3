use Rattle.std.proofs.Common.{rules, ◌≡◌, None}
use Rattle.maps.proofs.Export.{are_bytes}
use Rattle.replica.specs.Refusals.{early_refusal}
use Rattle.replica.proofs.Export.{is_asked}
use Rattle.store_steps.proofs.questions.check_one.Goals as goal

pub returns-clause-may : goal.returns-clause-may
returns-clause-may c =
    let none : early_refusal c.args.catalogue.now c.args.mode c.args.program c.args.argument.now ≡ None = search rules in
    (is_asked c.args.mode c.args.catalogue.now c.args.program c.args.argument.now none (are_bytes c.args.argument.now c.type_inv.argument), c.in_ok-check_call.ensures.fits)

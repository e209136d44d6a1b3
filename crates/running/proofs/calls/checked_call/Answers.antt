use Rattle.std.proofs.Common.{rules, ◌≡◌, true, None, sym, subst}
use Rattle.maps.specs.Maps.{AreBytes}
use Rattle.oplog.specs.Calls.{Call}
use Rattle.replica.specs.StoreMeaning.{is_call}
use Rattle.replica.specs.Refusals.{early_refusal}
use Rattle.replica.proofs.Export.{is_asked}
use Rattle.running.proofs.calls.checked_call.Goals as goal

pub returns-clause-call : goal.returns-clause-call
returns-clause-call c =
    let asked : Call = record { program = c.args.program; argument = c.args.argument.now } in
    let is : c.new.result ≡ asked = search rules in
    let none : early_refusal c.args.catalogue.now c.args.mode asked.program asked.argument ≡ None = search rules in
    (is, subst (λ o. is_call c.args.mode c.args.catalogue.now o ≡ true) (sym is) (is_asked c.args.mode c.args.catalogue.now asked.program asked.argument none (subst (λ o. AreBytes o.argument) is c.new.ensures.bytes)))

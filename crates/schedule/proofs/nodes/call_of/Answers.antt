use Rattle.std.proofs.Common.{rules, ◌≡◌, true, None, sym, subst}
use Rattle.maps.specs.Maps.{AreBytes}
use Rattle.replica.specs.StoreMeaning.{is_call}
use Rattle.replica.specs.Refusals.{early_refusal}
use Rattle.replica.proofs.Export.{is_asked}
use Rattle.schedule.proofs.nodes.call_of.Goals as goal

pub returns : goal.returns
returns c =
    let is = c.new.ensures.call in
    let none : early_refusal c.args.catalogue.now c.args.mode c.args.program c.args.argument.now ≡ None = search rules in
    record {
      refusal = none;
      call = (is, subst (λ o. is_call c.args.mode c.args.catalogue.now o ≡ true) (sym is) (is_asked c.args.mode c.args.catalogue.now c.args.program c.args.argument.now none (subst (λ o. AreBytes o.argument) is c.new.ensures.bytes)));
    }

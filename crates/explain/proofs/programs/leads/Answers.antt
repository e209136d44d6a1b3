use Rattle.std.proofs.Common.{sym, ap, ◌∙◌}
use Rattle.explain.proofs.Slots.{is_led, led_is}
use Rattle.explain.proofs.programs.leads.Goals as goal

pub returns-in-Some : goal.returns-in-Some
returns-in-Some c =
    λ within. ap (λ r. is_led r c.args.to) (sym c.in-Some.is) ∙ led_is c.args.form c.args.slot c.args.edge c.args.to c.successor.result (c.successor.ensures within)

pub returns-in-None : goal.returns-in-None
returns-in-None c =
    λ within. ap (λ r. is_led r c.args.to) (sym c.in-None.is) ∙ led_is c.args.form c.args.slot c.args.edge c.args.to c.successor.result (c.successor.ensures within)

use Rattle.std.proofs.Common.{[], ◌∷◌, subst}
use Rattle.store_steps.specs.Views.{SessionView, op_of}
use Rattle.store.specs.Linear.{Adds, AreExplained}
use Rattle.example_calls.specs.Heard.{call_and_back}
use Rattle.example_calls.proofs.Told.{in_turn}
use Rattle.example_calls.proofs.in_turn.update_in_turn.Goals as goal

pub returns-clause-in_order : goal.returns-clause-in_order
returns-clause-in_order g c =
    let store = c.args.store.now in
    let op = op_of c.args.program c.args.argument.now in
    let a = c.in-Some.first in
    let b = c.in-Some-update.second in
    let later = c.update-2.new.session in
    let same = c.stand-one.ensures.same in
    let second = subst (λ (z : SessionView). Adds z later (call_and_back z.session op b)) same.1
    c.in-Some-update.ensures.adds in
    let after = subst (λ z. AreExplained store (z ∷ later ∷ [])) same.0 c.stand-one-2.ensures.explained in
    in_turn c.calls_in_order.ensures.order store c.args.sessions.0 c.update.new.session c.args.sessions.1 later op a b
    c.in-Some.ensures.adds c.stand-one.ensures.explained second after

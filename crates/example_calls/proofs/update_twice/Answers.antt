use Rattle.std.proofs.Common.{ℕ, subst}
use Rattle.store_steps.specs.Views.{op_of}
use Rattle.store.specs.Linear.{Adds}
use Rattle.store.proofs.Export.{adds_then, goes_then}
use Rattle.example_calls.specs.Heard.{call_and_back}
use Rattle.example_calls.proofs.update_twice.Goals as goal

pub returns-in_err-second-clause-session : goal.returns-in_err-second-clause-session
returns-in_err-second-clause-session g c =
    goes_then c.args.store.now c.args.session.now c.update.new.session c.update-2.new.session c.update.ensures.session
    c.update-2.ensures.session

pub returns-clause-session : goal.returns-clause-session
returns-clause-session g c = goes_then c.args.store.now c.args.session.now c.update.new.session c.update-2.new.session
    c.update.ensures.session c.update-2.ensures.session

pub returns-clause-adds : goal.returns-clause-adds
returns-clause-adds g c =
    let op = op_of c.args.program c.args.argument.now in
    let one = c.in_ok-first.ensures.adds in
    let two = c.in_ok-second.ensures.adds in
    let events = λ (x : ℕ). call_and_back x op c.in_ok-second.second in
    adds_then c.args.session.now c.update.new.session c.update-2.new.session
    (call_and_back c.args.session.now.session op c.in_ok-first.first) (events c.args.session.now.session) one
    (subst (λ x. Adds c.update.new.session c.update-2.new.session (events x)) one.same two)

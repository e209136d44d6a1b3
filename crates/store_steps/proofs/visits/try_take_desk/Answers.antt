use Rattle.std.proofs.Common.{◌+◌, sym, ap}
use Rattle.store_steps.specs.Knowing.{IsOn}
use Rattle.store_steps.specs.Standing.{IsFree}
use Rattle.store_steps.proofs.Taken.{known_as}
use Rattle.store_steps.proofs.TakenDesk.{has_taken, if_both, is_desk}
use Rattle.store_steps.proofs.visits.try_take_desk.Goals as goal

pub returns-clause-desk : goal.returns-clause-desk
returns-clause-desk c =
    let i = c.requires.idle in
    let there = ap (λ n. 1 + n + c.args.here.caller.node) (sym i.2.1.nodes_are) in
    if_both _ c.take_desk.result c.take_desk.ensures.place c.take_desk.ensures.taken (λ held at won. let t = has_taken i.0 c.args.here.caller _ i.2.0 there c.args.seat.now c.take_desk.new.seat i.1 _ at held.value won in is_desk c.args.here.caller i.0 t.0 _ held.value t.2)

pub returns-clause-taken : goal.returns-clause-taken
returns-clause-taken c =
    if_both _ c.take_desk.result c.take_desk.ensures.place c.take_desk.ensures.taken
    (λ held at won k is.
    let i = known_as c.args.seat.now (λ z. IsFree c.args.here.caller z × IsOn c.args.here.shared z) c.requires.idle k is in
    has_taken k c.args.here.caller _ i.0 (ap (λ n. 1 + n + c.args.here.caller.node) (sym i.1.nodes_are)) c.args.seat.now c.take_desk.new.seat is _ at held.value won)

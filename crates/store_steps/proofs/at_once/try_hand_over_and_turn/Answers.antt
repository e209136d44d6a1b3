use Rattle.accounts.specs.declared.sessions.Pending.{Pending}
use Rattle.store_steps.specs.AtDesk.{IsReady}
use Rattle.store_steps.specs.AtOnce.{StillWaits}
use Rattle.store_steps.specs.Knowing.{IsOn}
use Rattle.store_steps.specs.Standing.{IsFree, Stands}
use Rattle.store_steps.proofs.AtOnce.{asks_still, gives_turn}
use Rattle.store_steps.proofs.Combined.{ready_on}
use Rattle.store_steps.proofs.Taken.{known_as}
use Rattle.store_steps.proofs.TakenDesk.{is_at}
use Rattle.store_steps.proofs.PutBack.{gives_and_again, puts_answers, took_last}
use Rattle.store_steps.proofs.at_once.try_hand_over_and_turn.Goals as goal

pub try_take_desk-requires-clause-idle : goal.try_take_desk-requires-clause-idle
try_take_desk-requires-clause-idle c = let i = c.requires.ready in (i.0, i.1, (i.2.0, i.2.2))

pub reply-requires : goal.reply-requires
reply-requires c =
    let i = c.requires.ready in
    let t = c.in-Some.ensures.taken i.0 i.1 in
    record { own = (t.0, c.args.here.caller.slot, is_at c.args.here.caller i.0 t.0 _ _ t.2 c.desk_mut.result.now c.desk_mut.ensures.desk, ready_on i.0 t.0 c.args.batch.now c.args.replies.now t.2.here.notes t.2.note t.2.extends i.2.3 t.2.here.accounts i.2.1) }

pub settle-again-requires-clause-may : goal.settle-again-requires-clause-may
settle-again-requires-clause-may c =
    let i = c.requires.ready in
    let t = c.in-Some.ensures.taken i.0 i.1 in
    (t.0, t.1, (puts_answers c.args.here.caller i.0 t.0 _ _ c.args.batch.now c.args.replies.now t.2 i.2.1 i.2.3 c.reply.new.batch c.desk_mut.result.now c.reply.new.desk c.desk_mut.ensures.desk c.reply.ensures.answered c.reply.ensures.replied c.try_take_desk.new.seat t.1).may, took_last c.args.here.caller i.0 t.0 _ _ t.2)

pub turn_and_put-requires-clause-asked : goal.turn_and_put-requires-clause-asked
turn_and_put-requires-clause-asked c =
    let i = c.requires.ready in
    let t = c.in-Some.ensures.taken i.0 i.1 in
    let a = gives_and_again c.args.here.caller i.0 t.0 _ _ c.args.batch.now c.args.replies.now t.2 i.2.1 i.2.3 c.reply.new.batch c.desk_mut.result.now c.reply.new.desk c.desk_mut.ensures.desk c.reply.ensures.answered c.reply.ensures.replied c.try_take_desk.new.seat t.1 c.settle-again.new.seat c.settle-again.ensures.settled _ c.settle-again.ensures.same.1 _ c.settle-again.ensures.same.2 in
    (a.between, a.again, i.2.4.0, a.is, a.has, asks_still i.0 a.between i.2.4.0 i.2.4.1 a.so.0)

pub returns-clause-turned : goal.returns-clause-turned
returns-clause-turned c k o is waits =
    let i = known_as c.args.seat.now (λ z. IsFree c.args.here.caller z × IsReady z c.args.batch.now c.args.replies.now × IsOn c.args.here.shared z × Stands z × ((o : Pending) × StillWaits z o)) c.requires.ready k is in
    let t = c.in-Some.ensures.taken k is in
    let a = gives_and_again c.args.here.caller k t.0 _ _ c.args.batch.now c.args.replies.now t.2 i.1 i.3 c.reply.new.batch c.desk_mut.result.now c.reply.new.desk c.desk_mut.ensures.desk c.reply.ensures.answered c.reply.ensures.replied c.try_take_desk.new.seat t.1 c.settle-again.new.seat c.settle-again.ensures.settled _ c.settle-again.ensures.same.1 _ c.settle-again.ensures.same.2 in
    let f = c.turn_and_put.ensures.turned a.between a.again o a.is a.has (asks_still k a.between o waits a.so.0) in
    gives_turn c.args.here.caller _ _ c.args.seat.now _ k a.between a.again a.took a.next _ _ o c.args.batch.now c.args.replies.now a.so.0 a.so.1 f

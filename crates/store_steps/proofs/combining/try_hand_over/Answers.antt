use Rattle.store_steps.specs.AtDesk.{IsReady}
use Rattle.store_steps.specs.Knowing.{IsOn}
use Rattle.store_steps.specs.Standing.{IsFree, Stands}
use Rattle.store_steps.proofs.Combined.{ready_on}
use Rattle.store_steps.proofs.Taken.{known_as}
use Rattle.store_steps.proofs.TakenDesk.{is_at}
use Rattle.store_steps.proofs.PutBack.{gives_there, puts_answers}
use Rattle.store_steps.proofs.combining.try_hand_over.Goals as goal

pub try_take_desk-requires-clause-idle : goal.try_take_desk-requires-clause-idle
try_take_desk-requires-clause-idle c = let i = c.requires.ready in (i.0, i.1, (i.2.0, i.2.2))

pub reply-requires : goal.reply-requires
reply-requires c =
    let i = c.requires.ready in
    let t = c.in-Some.ensures.taken i.0 i.1 in
    record { own = (t.0, c.args.here.caller.slot, is_at c.args.here.caller i.0 t.0 _ _ t.2 c.desk_mut.result.now c.desk_mut.ensures.desk, ready_on i.0 t.0 c.args.batch.now c.args.replies.now t.2.here.notes t.2.note t.2.extends i.2.3 t.2.here.accounts i.2.1) }

pub put-requires-clause-may : goal.put-requires-clause-may
put-requires-clause-may c =
    let i = c.requires.ready in
    let t = c.in-Some.ensures.taken i.0 i.1 in
    (t.0, t.1, (puts_answers c.args.here.caller i.0 t.0 _ _ c.args.batch.now c.args.replies.now t.2 i.2.1 i.2.3 c.reply.new.batch c.desk_mut.result.now c.reply.new.desk c.desk_mut.ensures.desk c.reply.ensures.answered c.reply.ensures.replied c.try_take_desk.new.seat t.1).may)

pub returns-clause-handed : goal.returns-clause-handed
returns-clause-handed c k is =
    let i = known_as c.args.seat.now (λ z. IsFree c.args.here.caller z × IsReady z c.args.batch.now c.args.replies.now × IsOn c.args.here.shared z × Stands z) c.requires.ready k is in
    let t = c.in-Some.ensures.taken k is in
    let f = c.put.ensures.put t.0 t.1 in
    let g = gives_there c.args.here.caller k t.0 _ _ c.args.batch.now c.args.replies.now t.2 i.1 i.3 c.reply.new.batch c.desk_mut.result.now c.reply.new.desk c.desk_mut.ensures.desk c.reply.ensures.answered c.reply.ensures.replied c.try_take_desk.new.seat t.1 f.0 f.1.0 f.1.1 _ f.3 in
    (_, f.2, g.0, g.1)

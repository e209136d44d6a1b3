use Rattle.accounts.specs.Moves.{IsAtRest}
use Rattle.store_steps.specs.Knowing.{IsOn}
use Rattle.store_steps.proofs.Taken.{known_as}
use Rattle.store_steps.proofs.Turning.{may_post, puts_posted}
use Rattle.store_steps.proofs.PutBack.{posts_there}
use Rattle.store_steps.proofs.requests.try_post.Goals as goal

pub try_take_desk-requires-clause-idle : goal.try_take_desk-requires-clause-idle
try_take_desk-requires-clause-idle c = let i = c.requires.idle in (i.0, i.1, (i.2, i.4))

pub post-requires : goal.post-requires
post-requires c =
    let i = c.requires.idle in
    let t = c.in-Some.ensures.taken i.0 i.1 in
    record { own = may_post c.args.here.caller i.0 t.0 _ _ c.args.op.now t.2 c.desk_mut.result.now c.desk_mut.ensures.desk i.3 _ i.4.catalogue_is c.requires.update }

pub put-requires-clause-may : goal.put-requires-clause-may
put-requires-clause-may c =
    let i = c.requires.idle in
    let t = c.in-Some.ensures.taken i.0 i.1 in
    (t.0, t.1, (puts_posted c.args.here.caller i.0 t.0 _ _ c.args.op.now t.2 c.desk_mut.result.now c.post.new.desk c.desk_mut.ensures.desk c.post.ensures.posted c.try_take_desk.new.seat.sessions t.1 _ i.4.catalogue_is c.requires.update i.3).may)

pub returns-clause-posted : goal.returns-clause-posted
returns-clause-posted c k is =
    let i = c.requires.idle in
    let own = known_as c.args.seat.now (λ z. IsAtRest z.note × IsOn c.args.here.shared z) (i.0, i.1, (i.3, i.4)) k is in
    let t = c.in-Some.ensures.taken k is in
    let f = c.put.ensures.put t.0 t.1 in
    let p = posts_there c.args.here.caller k t.0 _ _ c.args.op.now t.2 c.desk_mut.result.now c.post.new.desk c.desk_mut.ensures.desk c.post.ensures.posted c.try_take_desk.new.seat t.1 _ own.1.catalogue_is c.requires.update own.0 f.0 f.1.0 f.1.1 _ f.3 in
    (_, f.2, p.0, p.1)

use Rattle.store_steps.specs.AtOnce.{IsAlone}
use Rattle.store_steps.specs.Knowing.{IsOn}
use Rattle.store_steps.proofs.AtOnce.{asks, posts_turn}
use Rattle.store_steps.proofs.Taken.{known_as}
use Rattle.store_steps.proofs.Turning.{may_post, puts_posted}
use Rattle.store_steps.proofs.PutBack.{posts_and_again, took_last}
use Rattle.store_steps.proofs.at_once.try_post_and_turn.Goals as goal

pub try_take_desk-requires-clause-idle : goal.try_take_desk-requires-clause-idle
try_take_desk-requires-clause-idle c = let i = c.requires.idle in (i.0, i.1, (i.2, i.4))

pub post-requires : goal.post-requires
post-requires c =
    let i = c.requires.idle in
    let t = c.in-Some.ensures.taken i.0 i.1 in
    record { own = may_post c.args.here.caller i.0 t.0 _ _ c.args.op.now t.2 c.desk_mut.result.now c.desk_mut.ensures.desk i.3.rests _ i.4.catalogue_is c.requires.update }

pub settle-again-requires-clause-may : goal.settle-again-requires-clause-may
settle-again-requires-clause-may c =
    let i = c.requires.idle in
    let t = c.in-Some.ensures.taken i.0 i.1 in
    let puts = puts_posted c.args.here.caller i.0 t.0 _ _ c.args.op.now t.2 c.desk_mut.result.now c.post.new.desk c.desk_mut.ensures.desk c.post.ensures.posted c.try_take_desk.new.seat.sessions t.1 _ i.4.catalogue_is c.requires.update i.3.rests in
    (t.0, t.1, puts.may, took_last c.args.here.caller i.0 t.0 _ _ t.2)

pub turn_and_put-requires-clause-asked : goal.turn_and_put-requires-clause-asked
turn_and_put-requires-clause-asked c =
    let i = c.requires.idle in
    let t = c.in-Some.ensures.taken i.0 i.1 in
    let a = posts_and_again c.args.here.caller i.0 t.0 _ _ c.args.op.now t.2 c.desk_mut.result.now c.post.new.desk c.desk_mut.ensures.desk c.post.ensures.posted c.try_take_desk.new.seat t.1 _ i.4.catalogue_is c.requires.update i.3.rests c.settle-again.new.seat c.settle-again.ensures.settled _ c.settle-again.ensures.same.1 _ c.settle-again.ensures.same.2 in
    (a.between, a.again, a.so.0.request, a.is, a.has, asks i.0 a.between c.args.op.now i.3 a.so.0)

pub returns-clause-turned : goal.returns-clause-turned
returns-clause-turned c k is =
    let i = c.requires.idle in
    let own = known_as c.args.seat.now (λ z. IsAlone z × IsOn c.args.here.shared z) (i.0, i.1, (i.3, i.4)) k is in
    let t = c.in-Some.ensures.taken k is in
    let a = posts_and_again c.args.here.caller k t.0 _ _ c.args.op.now t.2 c.desk_mut.result.now c.post.new.desk c.desk_mut.ensures.desk c.post.ensures.posted c.try_take_desk.new.seat t.1 _ own.1.catalogue_is c.requires.update own.0.rests c.settle-again.new.seat c.settle-again.ensures.settled _ c.settle-again.ensures.same.1 _ c.settle-again.ensures.same.2 in
    let f = c.turn_and_put.ensures.turned a.between a.again a.so.0.request a.is a.has (asks k a.between c.args.op.now own.0 a.so.0) in
    posts_turn c.args.here.caller _ _ c.args.seat.now _ k a.between a.again a.took a.next _ _ c.args.op.now a.so.0 a.so.1 f

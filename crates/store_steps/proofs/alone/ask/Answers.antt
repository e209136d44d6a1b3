use Rattle.std.proofs.Common.{◌∙◌, ap, subst, sym}
use Rattle.combiner.specs.Desks.{BatchView}
use Rattle.store_steps.specs.declared.alone.Posted.{Posted}
use Rattle.store_steps.specs.declared.desks.Turn.{Turn}
use Rattle.store_steps.specs.Alone.{AsksSoFar, ClaimsOwn, batch_in, turn_in}
use Rattle.store_steps.specs.AtOnce.{IsAlone, PostsAndTurns}
use Rattle.store_steps.specs.Knowing.{IsOn}
use Rattle.store_steps.specs.Standing.{IsFree, StoreSeat}
use Rattle.store_steps.proofs.AtOnce.{asks, claimed_waits}
use Rattle.store_steps.proofs.Own.{alone_so_far, may_combine, posted_so_far}
use Rattle.store_steps.proofs.Taken.{known_as}
use Rattle.store_steps.proofs.alone.ask.Goals as goal
use Rattle.store_steps.proofs.alone.ask.Goals.{in-Claims, in-Turns}

pub returns-in_default-clause-asked : goal.returns-in_default-clause-asked
returns-in_default-clause-asked g c k is =
    let back = c.let_line_go.ensures.same ∙ c.in_default.ensures.stays in
    posted_so_far c.let_line_go.new.seat c.post_and_turn.new.seat k c.args.op.now _ _
    (c.post_and_turn.ensures.turned k (ap (λ (z : StoreSeat). z.sessions) back ∙ is))

pub go_alone-requires-clause-claimed : goal.go_alone-requires-clause-claimed
go_alone-requires-clause-claimed g c =
    let i = c.requires.idle in
    let s = c.try_post_and_claim.new.seat in
    let turned =
    λ (z : Posted). PostsAndTurns c.args.seat.now s i.0 c.args.op.now (batch_in c.try_post_and_claim.new.batch z)
    (turn_in z) in
    may_combine c.args.here.caller i.0 c.args.op.now i.2 i.3 c.args.seat.now s c.args.here.shared c.in-Claims.new i.4
    (subst turned c.in-Claims.is (c.in-Some.ensures.turned i.0 i.1))
    (subst (ClaimsOwn i.0) c.in-Claims.is (c.in-Some.ensures.own i.0 i.1))

pub returns-clause-asked : goal.returns-clause-asked
returns-clause-asked g c k is =
    let i = c.requires.idle in
    let has =
    known_as c.args.seat.now (λ z. IsFree c.args.here.caller z × IsAlone z × IsOn c.args.here.shared z)
    (i.0, i.1, (i.2, i.3, i.4)) k is in
    let op = c.args.op.now in
    let s = c.try_post_and_claim.new.seat in
    let posted = c.in-Some.ensures.turned k is in
    let turned =
    λ (z : Posted). PostsAndTurns c.args.seat.now s k op (batch_in c.try_post_and_claim.new.batch z) (turn_in z) in
    let m = c.match-posted in
    elim m.branch as (λ z. AsksSoFar m.seat k op m.room.batch m.result) [
      | in-Claims w ↦ (
          let p = subst turned w.in-Claims.is posted in
          let went =
          w.go_alone.ensures.went p.after p.posted.request p.is
          (claimed_waits p.after p.posted.request _ p.asked p.turned (asks k p.asked op has.1 p.posted)) in
          let so =
          alone_so_far c.args.here.caller k op has.0 has.1 c.args.seat.now s w.go_alone.new.seat w.in-Claims.new _
          _ p went in
          subst (λ (z : StoreSeat × BatchView × Turn). AsksSoFar z.0 k op z.1 z.2)
          (λ j. (sym w.seat-is j, sym (ap (λ z. z.batch) w.room-is) j, sym w.result-is j)) so)
      | in-Turns w ↦ (
          let so = posted_so_far c.args.seat.now s k op _ _ (subst turned w.in-Turns.is posted) in
          subst (λ (z : StoreSeat × BatchView × Turn). AsksSoFar z.0 k op z.1 z.2)
          (λ j. (sym w.seat-is j, sym (ap (λ z. z.batch) w.room-is) j, sym w.result-is j)) so)
    ]

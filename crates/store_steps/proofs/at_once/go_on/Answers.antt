use Rattle.std.proofs.Common.{refl, sym, subst, ◌∙◌}
use Rattle.combiner.specs.Desks.{BatchView}
use Rattle.replica.specs.Views.{RepliesView}
use Rattle.store_steps.specs.AtDesk.{IsReady}
use Rattle.store_steps.specs.AtOnce.{GivesAndTurns, HasGone}
use Rattle.store_steps.proofs.AtOnce.{answered_waits, claimed_waits, combined_on, gone_free, gone_on, waited_on}
use Rattle.store_steps.proofs.Resumed.{asked_by, has_claimed, resumed_waited}
use Rattle.store_steps.proofs.Taken.{free_on, shelf_on}
use Rattle.store_steps.proofs.at_once.go_on.Goals as goal

pub loop-init : goal.loop-init
loop-init g c = (refl, λ asked o h. h)

pub returns-in-Collects-clause-answered : goal.returns-in-Collects-clause-answered
returns-in-Collects-clause-answered g c asked o h =
    subst (λ z. HasGone c.loop.seat c.args.here.caller asked o c.loop.room.batch z) c.in-Collects.is
    (c.loop.invariant.1 asked o h)

pub append_and_replay-requires-clause-claimed : goal.append_and_replay-requires-clause-claimed
append_and_replay-requires-clause-claimed g c =
    let i = c.requires.waited in
    let n = subst (λ z. HasGone c.loop.seat c.args.here.caller i.0 i.1 c.loop.room.batch z) c.in-Combines.is
    (c.loop.invariant.1 i.0 i.1 i.2) in (
      n.waits.now,
      n.waits.is,
      (
        gone_free c.args.here.caller c.loop.seat i.0 i.1 _ _ n,
        has_claimed n.waits.waited n.waits.now i.1
            c.loop.room.batch n.waits.turned,
        gone_on c.args.here.shared c.args.here.caller c.loop.seat i.0 i.1 _ _ n
            i.3,
      ),
    )

pub hand_over_and_turn-at-requires-clause-ready : goal.hand_over_and_turn-at-requires-clause-ready
hand_over_and_turn-at-requires-clause-ready g c =
    let i = c.requires.waited in
    let n = subst (λ z. HasGone c.loop.seat c.args.here.caller i.0 i.1 c.loop.room.batch z) c.in-Combines.is
    (c.loop.invariant.1 i.0 i.1 i.2) in
    let w = n.waits in
    let a = c.append_and_replay.ensures.combined w.now w.is in
    let room = c.count_batch.ensures.room in (
      a.0,
      a.1,
      (
        free_on c.args.here.caller w.now a.0 a.2.session a.2.held a.2.extends
            (gone_free c.args.here.caller c.loop.seat i.0 i.1 _ _ n),
        subst (λ (z : RepliesView). IsReady a.0 c.count_batch.new.self.batch z) (sym room.1)
            (subst (λ (z : BatchView). IsReady a.0 z c.append_and_replay.new.replies) (sym room.0) a.2.ready),
        shelf_on _ _ _ _ w.now a.0 a.2.extends
            (gone_on c.args.here.shared c.args.here.caller c.loop.seat i.0 i.1 _ _ n i.3),
        a.2.stands,
        (
          i.1,
          answered_waits w.now a.0 i.1 c.loop.room.batch c.append_and_replay.new.replies
              (claimed_waits w.now i.1 c.loop.room.batch w.waited w.turned
              (asked_by i.0 w.waited i.1 w.resumed.note n.asks)) a.2,
        ),
      ),
    )

pub loop-preserved-in-Combines : goal.loop-preserved-in-Combines
loop-preserved-in-Combines g c = (
  c.hand_over_and_turn-at.ensures.same ∙ (c.append_and_replay.ensures.same ∙ c.loop.invariant.0),
  λ asked o h.
      let n = subst (λ z. HasGone c.loop.seat c.args.here.caller asked o c.loop.room.batch z) c.in-Combines.is
      (c.loop.invariant.1 asked o h) in
      let w = n.waits in
      let b = c.loop.room.batch in
      let kept = c.append_and_replay.new.replies in
      let a = c.append_and_replay.ensures.combined w.now w.is in
      let room = c.count_batch.ensures.room in
      let r = c.hand_over_and_turn-at.ensures.turned a.0 o a.1
      (answered_waits w.now a.0 o b kept
      (claimed_waits w.now o b w.waited w.turned (asked_by asked w.waited o w.resumed.note n.asks)) a.2) in
      let turns : GivesAndTurns c.args.here.caller.node c.hand_over_and_turn-at.new.seat a.0 o b kept
      c.hand_over_and_turn-at.new.batch c.hand_over_and_turn-at.result =
      subst (λ (z : BatchView × RepliesView). GivesAndTurns c.args.here.caller.node c.hand_over_and_turn-at.new.seat
      a.0 o z.0 z.1 c.hand_over_and_turn-at.new.batch c.hand_over_and_turn-at.result) (λ j. (room.0 j, room.1 j))
      r in
      combined_on c.args.here.caller c.loop.seat c.hand_over_and_turn-at.new.seat asked o b
      c.hand_over_and_turn-at.new.batch c.hand_over_and_turn-at.result n a.0 kept a.2 a.3 turns,
)

pub turn-at-requires-clause-asked : goal.turn-at-requires-clause-asked
turn-at-requires-clause-asked g c =
    let i = c.requires.waited in
    let n = subst (λ z. HasGone c.loop.seat c.args.here.caller i.0 i.1 c.loop.room.batch z) c.in-Waits.is
    (c.loop.invariant.1 i.0 i.1 i.2) in
    let w = n.waits in
    let r = resumed_waited c.args.here.caller i.0 w.waited w.now i.1 c.loop.room.batch n.free w.resumed w.turned in (
      w.now,
      i.1,
      w.is,
      gone_free c.args.here.caller c.loop.seat i.0 i.1 _ _ n,
      asked_by i.0 w.now i.1 r.note n.asks,
      gone_on c.args.here.shared c.args.here.caller c.loop.seat i.0 i.1 _ _ n i.3,
    )

pub loop-preserved : goal.loop-preserved
loop-preserved g c = (
  c.turn-at.ensures.same ∙ c.loop.invariant.0,
  λ asked o h.
      let n = subst (λ z. HasGone c.loop.seat c.args.here.caller asked o c.loop.room.batch z) c.in-Waits.is
      (c.loop.invariant.1 asked o h) in
      let w = n.waits in
      let r = resumed_waited c.args.here.caller asked w.waited w.now o c.loop.room.batch n.free w.resumed w.turned in
      let t = c.turn-at.ensures.turned w.now o w.is (asked_by asked w.now o r.note n.asks) in
      waited_on c.args.here.caller c.loop.seat c.turn-at.new.seat asked o c.loop.room.batch c.turn-at.new.batch
      c.turn-at.result n t.0 t.1 t.2 t.3,
)

use Rattle.std.proofs.Common.{◌++◌, ◌∙◌, sym, ap, refl, subst}
use Rattle.std.specs.Prelude.{[]}
use Rattle.ownlock.proofs.Export.{stepped_by}
use Rattle.ownlock.specs.Invariant.{first_of, others_of}
use Rattle.ownlock.specs.Seats.{HoldsNone}
use Rattle.store_steps.specs.AtDesk.{IsTurn}
use Rattle.store_steps.proofs.Parts.{has_desk, desk_put}
use Rattle.store_steps.proofs.Handing.{asks_there, desk_is, has_turned_so, holds_none, may_hand, next_as, taken, took_as, turn_may, turns_so}
use Rattle.store_steps.proofs.TakenDesk.{is_at, is_desk}
use Rattle.store_steps.specs.Lending.{desk_of, with_desk}
use Rattle.store_steps.proofs.passing.turn_and_hand_on.Goals as goal

pub desk_mut-requires : goal.desk_mut-requires
desk_mut-requires c =
    let i = c.requires.has in
    record { desk = is_desk c.args.here.caller i.0 i.1 c.args.held.spot.place c.args.held.value (taken c.args.at.now c.args.here c.args.held i.0 i.1 i.3 c.requires.place) }

pub collect_or_claim-turn-requires : goal.collect_or_claim-turn-requires
collect_or_claim-turn-requires c =
    let i = c.requires.has in
    let b = taken c.args.at.now c.args.here c.args.held i.0 i.1 i.3 c.requires.place in
    record { own = (i.1, i.2, is_at c.args.here.caller i.0 i.1 c.args.held.spot.place c.args.held.value b c.desk_mut.result.now c.desk_mut.ensures.desk, asks_there c.args.at.now c.args.here c.args.held i.0 i.1 i.3 c.requires.place i.2 i.4) }

pub hand_on-held-requires-clause-may : goal.hand_on-held-requires-clause-may
hand_on-held-requires-clause-may c =
    let i = c.requires.has in
    let n = c.requires.next in
    let both = c.join.ensures.joined ∙ (λ j. i.3.is j ++ n.1.is j) in (
      i.1,
      n.0,
      [],
      both,
      turn_may c.args.at.now c.args.here c.args.held i.0 i.1 i.3 c.requires.place i.2 i.4 c.desk_mut.result.now c.collect_or_claim-turn.new.desk c.desk_mut.ensures.desk c.collect_or_claim-turn.new.batch c.collect_or_claim-turn.result c.collect_or_claim-turn.ensures.turn (first_of c.join.new.seat.sessions) (ap first_of both),
      may_hand c.args.at.now c.args.here c.args.held i.0 i.1 i.3 c.requires.place c.args.next n.0 n.1,
    )

pub split_off-done-requires-clause-some : goal.split_off-done-requires-clause-some
split_off-done-requires-clause-some c =
    let i = c.requires.has in
    let n = c.requires.next in
    let s = c.hand_on-held.ensures.handed i.1 n.0 [] (c.join.ensures.joined ∙ (λ j. i.3.is j ++ n.1.is j)) in
    (_, _, s.2.2.3)

pub split_off-done-requires-clause-idle : goal.split_off-done-requires-clause-idle
split_off-done-requires-clause-idle c =
    let i = c.requires.has in
    let n = c.requires.next in
    let both = c.join.ensures.joined ∙ (λ j. i.3.is j ++ n.1.is j) in
    let s = c.hand_on-held.ensures.handed i.1 n.0 [] both in
    let p = has_turned_so c.args.at.now c.args.here c.args.held i.0 i.1 i.3 c.requires.place i.2 i.4 c.desk_mut.result.now c.collect_or_claim-turn.new.desk c.desk_mut.ensures.desk c.collect_or_claim-turn.new.batch c.collect_or_claim-turn.result c.collect_or_claim-turn.ensures.turn (first_of c.join.new.seat.sessions) (ap first_of both) s.0 s.1.0 s.1.1 s.2.0 s.2.1 in
    subst HoldsNone (sym (ap others_of s.2.2.3)) (holds_none _ p.back.held)

pub join-requires-clause-idle : goal.join-requires-clause-idle
join-requires-clause-idle c = let n = c.requires.next in subst HoldsNone (sym n.1.is) (holds_none n.0 n.1.free.held)

pub returns-clause-turn : goal.returns-clause-turn
returns-clause-turn c x is = (
  c.collect_or_claim-turn.new.desk,
  subst (λ u. IsTurn c.args.here.caller.slot u c.collect_or_claim-turn.new.desk c.collect_or_claim-turn.new.batch c.collect_or_claim-turn.result) (desk_is c.args.held.value c.desk_mut.result.now x c.desk_mut.ensures.desk is) c.collect_or_claim-turn.ensures.turn,
  ap desk_of c.hand_on-held.ensures.same.2 ∙ has_desk (with_desk c.args.held.value c.collect_or_claim-turn.new.desk) c.collect_or_claim-turn.new.desk (desk_put c.args.held.value c.desk_mut.result.now c.collect_or_claim-turn.new.desk c.desk_mut.ensures.desk),
)

pub returns-clause-handed : goal.returns-clause-handed
returns-clause-handed c m next k t o h asked =
    let both = c.join.ensures.joined ∙ (λ j. h.is j ++ next.is j) in
    let s = c.hand_on-held.ensures.handed t m [] both in
    let on = s.2.1 in
    let apart = c.split_off-done.ensures.apart _ _ s.2.2.3 in
    record {
      after = _;
      turned = has_turned_so c.args.at.now c.args.here c.args.held k t h c.requires.place o asked c.desk_mut.result.now c.collect_or_claim-turn.new.desk c.desk_mut.ensures.desk c.collect_or_claim-turn.new.batch c.collect_or_claim-turn.result c.collect_or_claim-turn.ensures.turn (first_of c.join.new.seat.sessions) (ap first_of both) s.0 s.1.0 s.1.1 s.2.0 on;
      turns = turns_so c.args.at.now c.args.here c.args.held k t h c.requires.place o asked c.desk_mut.result.now c.collect_or_claim-turn.new.desk c.desk_mut.ensures.desk c.collect_or_claim-turn.new.batch c.collect_or_claim-turn.result c.collect_or_claim-turn.ensures.turn (first_of c.join.new.seat.sessions) (ap first_of both) s.0 s.1.0 s.1.1 s.2.0 on;
      is = record {
        done_is = apart.0;
        put = (_, _, stepped_by t _ _ refl refl on);
        now = s.2.2.0;
        is = apart.1;
        took = took_as _ s.2.2.0 _ _ _ _ c.hand_on-held.ensures.same.1 c.hand_on-held.ensures.same.2 s.2.2.1;
        next = next_as s.2.0 s.2.2.0 _ _ _ _ c.hand_on-held.ensures.same.1 c.hand_on-held.ensures.same.2 s.2.2.2;
      };
    }

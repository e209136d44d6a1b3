use Rattle.std.proofs.Common.{suc, ◌<◌, ◌^◌, length, sym, subst}
use Rattle.combiner.specs.Desks.{only}
use Rattle.store_steps.specs.declared.alone.Posted.{Posted}
use Rattle.store_steps.specs.declared.deeds.Deed.{Deed}
use Rattle.store_steps.specs.declared.deeds.Stage.{Stage}
use Rattle.store_steps.specs.declared.desks.Turn.TheVariants.{Combines}
use Rattle.store_steps.specs.Alone.{ClaimsOwn, batch_in, turn_in}
use Rattle.store_steps.specs.AtOnce.{FoundNoAnswer, IsAlone, PostsAndTurns}
use Rattle.store_steps.specs.Polling.{HasBegun}
use Rattle.store_steps.specs.Standing.{SessionKnown}
use Rattle.store_steps.proofs.Begun.{begun_by, begun_held}
use Rattle.store_steps.proofs.Gone.{on_known}
use Rattle.store_steps.proofs.Own.{may_combine}
use Rattle.store_steps.proofs.Taken.{known_as}
use Rattle.store_steps.proofs.polling.ask_by.Goals as goal

-- ---- it has claimed its own request alone

pub go_on_alone-stage-requires-clause-claimed : goal.go_on_alone-stage-requires-clause-claimed
go_on_alone-stage-requires-clause-claimed c =
    let i = c.requires.idle in
    let at = c.args.at.here in
    let old = c.args.seat.now in
    let asked = c.try_post_and_claim.new in
    let op = c.args.op.now in
    let few = known_as old (λ (k : SessionKnown). suc (length k.note.answered) < 2 ^ 64) c.requires.few i.known i.is in
    let alone : IsAlone i.known = record { rests = (i.pending, i.unread); alone = i.batch; few = few } in
    let posted = c.in-Some-Claims in
    let turned = λ (z : Posted). PostsAndTurns old asked.seat i.known op (batch_in asked.batch z) (turn_in z) in
    may_combine at.caller i.known op i.free alone old asked.seat at.shared posted.new
    (on_known at.shared old i.known i.is c.requires.on)
    (subst turned posted.field-0-is (posted.ensures.turned i.known i.is))
    (subst (ClaimsOwn i.known) posted.field-0-is (posted.ensures.own i.known i.is))

pub go_on_alone-stage-requires-clause-polled : goal.go_on_alone-stage-requires-clause-polled
go_on_alone-stage-requires-clause-polled c =
    let i = c.requires.idle in
    let old = c.args.seat.now in
    let asked = c.try_post_and_claim.new in
    let op = c.args.op.now in
    let posted = c.in-Some-Claims in
    let turned = λ (z : Posted). PostsAndTurns old asked.seat i.known op (batch_in asked.batch z) (turn_in z) in
    let p = subst turned posted.field-0-is (posted.ensures.turned i.known i.is) in
    let own = only posted.new in
    (begun_by old asked.seat c.args.at.here.caller i c.requires.few op own c.args.replies.now Combines p tt).polled

pub returns-in-Some-Claims-clause-came : goal.returns-in-Some-Claims-clause-came
returns-in-Some-Claims-clause-came c =
    let i = c.requires.idle in
    let old = c.args.seat.now in
    let asked = c.try_post_and_claim in
    let s = asked.new.seat in
    let caller = c.args.at.here.caller in
    let op = c.args.op.now in
    let posted = c.in-Some-Claims in
    let p = subst (λ (z : Posted). PostsAndTurns old s i.known op (batch_in asked.new.batch z) (turn_in z)) posted.field-0-is
    (posted.ensures.turned i.known i.is) in
    record {
      between = s;
      shelf = asked.ensures.same;
      claimed = only posted.new;
      begun = λ room. begun_by old s caller i c.requires.few op (only posted.new) room Combines p tt;
      held = begun_held old s caller i op (only posted.new) Combines p tt;
      gone = c.go_on_alone-stage.ensures.gone;
    }

-- ---- it has had another turn

pub returns-in-Some-Turns-clause-came : goal.returns-in-Some-Turns-clause-came
returns-in-Some-Turns-clause-came c =
    let i = c.requires.idle in
    let old = c.args.seat.now in
    let s = c.try_post_and_claim.new.seat in
    let b = c.try_post_and_claim.new.batch in
    let caller = c.args.at.here.caller in
    let op = c.args.op.now in
    let room = c.args.replies.now in
    let posted = c.in-Some-Turns in
    let p = subst (λ (z : Posted). PostsAndTurns old s i.known op (batch_in b z) (turn_in z)) posted.field-0-is
    (posted.ensures.turned i.known i.is) in
    let none = subst (λ z. FoundNoAnswer (turn_in z)) posted.field-0-is posted.ensures.fresh in (
      subst (λ (z : Stage × Deed). HasBegun old s caller op b room z.0) (sym c.after-stage.ensures.after)
          (begun_by old s caller i c.requires.few op b room posted.turn p none),
      begun_held old s caller i op b posted.turn p none,
    )

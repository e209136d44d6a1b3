use Rattle.std.proofs.Common.{◌≡◌, subst}
use Rattle.ownlock.proofs.Export.{one_known}
use Rattle.accounts.specs.Moves.{unplaced}
use Rattle.store_steps.proofs.Stretches.{combines_by}
use Rattle.store_steps.proofs.Taken.{free_on, shelf_on}
use Rattle.store_steps.proofs.Tried.{combined_then}
use Rattle.store_steps.proofs.combining.combine.Goals as goal

pub hand_over-requires-clause-ready : goal.hand_over-requires-clause-ready
hand_over-requires-clause-ready g c =
    let i = c.requires.claimed in
    let a = c.append_and_replay.ensures.combined i.0 i.1 in
    (a.0, a.1, (free_on c.args.here.caller i.0 a.0 a.2.session a.2.held a.2.extends i.2.0, a.2.ready, shelf_on _ _ _ _ i.0 a.0 a.2.extends i.2.2, a.2.stands))

pub returns-clause-combined : goal.returns-clause-combined
returns-clause-combined g c k is =
    let i = c.requires.claimed in
    let b = c.args.batch.now in
    let kept = c.append_and_replay.new.replies in
    let a = c.append_and_replay.ensures.combined k is in
    let z = c.hand_over.ensures.handed a.0 a.1 in
    let noted = subst (λ z. z.note.batch ≡ unplaced b.records) (one_known c.args.seat.now i.0 k i.1 is) i.2.1.noted in (
      z.0,
      z.1,
      combined_then k a.0 z.0 b kept a.2 z.2,
      combines_by c.args.here.caller.node k a.0 z.0 b kept a.3 z.3 a.2.extends z.2.extends a.2.stands c.hand_over.new.batch c.hand_over.ensures.answered noted a.2.session,
    )

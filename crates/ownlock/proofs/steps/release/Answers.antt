use Rattle.std.proofs.Common.{rules, map, ap, None}
use Rattle.std.proofs.lemmas.Option.{IfSome_then}
use Rattle.ownlock.specs.Seats.{without}
use Rattle.ownlock.specs.Invariant.{emptied}
use Rattle.ownlock.proofs.Frees.{put_out, none_left, put_in}
use Rattle.ownlock.proofs.Passing.{same_view}
use Rattle.ownlock.proofs.steps.release.Goals as goal

pub exchange-emptied-requires : goal.exchange-emptied-requires
exchange-emptied-requires g c = let m = c.requires.may in (search rules, (None, put_out _ m.0 c.args.spot.place _ c.slot_of.ensures (c.bring_front.ensures.front m.0 m.1)))

pub unreached-assert_unchecked-requires : goal.unreached-assert_unchecked-requires
unreached-assert_unchecked-requires g c = let m = c.requires.may in absurd (c.in_default.not-None (none_left _ m.0 c.args.spot.place _ _ (c.bring_front.ensures.front m.0 m.1) c.exchange-emptied.ensures.2))

pub leave-requires-clause-may : goal.leave-requires-clause-may
leave-requires-clause-may g c =
    let m = c.requires.may in
    let is = put_in _ _ m.0 c.args.spot.place _ c.args.value c.slot_of.ensures (c.bring_front.ensures.front m.0 m.1) c.exchange-emptied.ensures.3 in
    (m.0, c.args.value, map emptied (without c.args.spot.place m.0.held), is, m.2)

pub leave-requires-clause-by : goal.leave-requires-clause-by
leave-requires-clause-by g c =
    let m = c.requires.may in
    let is = put_in _ _ m.0 c.args.spot.place _ c.args.value c.slot_of.ensures (c.bring_front.ensures.front m.0 m.1) c.exchange-emptied.ensures.3 in
    IfSome_then c.args.won c.requires.by (λ w by k after. by k (same_view c.args.pass.now.me c.exchange-emptied.new.seat.me m.0 k (ap (λ z. z.0) m.1) (ap (λ z. z.0) is) after))

pub returns-clause-put : goal.returns-clause-put
returns-clause-put g c k sits =
    let is = put_in _ _ k c.args.spot.place _ c.args.value c.slot_of.ensures (c.bring_front.ensures.front k sits) c.exchange-emptied.ensures.3 in
    c.leave.ensures.left k c.args.value (map emptied (without c.args.spot.place k.held)) is

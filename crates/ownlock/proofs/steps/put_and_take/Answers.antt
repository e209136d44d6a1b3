use Rattle.std.proofs.Common.{rules, map, refl, sym, ◌∙◌, Some, None}
use Rattle.std.proofs.lemmas.Option.{same_Some}
use Rattle.ownlock.specs.Seats.{without}
use Rattle.ownlock.specs.Invariant.{emptied}
use Rattle.ownlock.proofs.Spots.{word_inside}
use Rattle.ownlock.proofs.Frees.{settles, put_out, none_left, put_in, full_out, taken_again}
use Rattle.ownlock.proofs.steps.put_and_take.Goals as goal

pub exchange-before-requires : goal.exchange-before-requires
exchange-before-requires g c = let m = c.requires.may in (search rules, (None, put_out _ m.0 c.args.spot.place _ c.slot_of.ensures (c.bring_front.ensures.front m.0 m.1)))

pub unreached-assert_unchecked-requires : goal.unreached-assert_unchecked-requires
unreached-assert_unchecked-requires g c =
    let m = c.requires.may in
    absurd (c.in_default.not-None (none_left _ m.0 c.args.spot.place _ _ (c.bring_front.ensures.front m.0 m.1) c.exchange-before.ensures.2))

pub load-requires : goal.load-requires
load-requires g c =
    let m = c.requires.may in
    let left = c.bring_front.ensures.front m.0 m.1 in
    let is = put_in _ _ m.0 c.args.spot.place _ c.args.value c.slot_of.ensures left c.exchange-before.ensures.3 in
    let h = c.requires.there.0 in
    (search rules, word_inside c.args.steps.now.table_id _ _ _ h, settles g.V.Shelved.rules g.V.Shelved.laws _ _ h.0 _ c.args.spot.place _ _ m.0 c.args.value (map emptied (without c.args.spot.place m.0.held)) g.M.Change.progress g.M.Change.note h.1.1 h.2.0 is m.2 m.3)

pub exchange-found-requires : goal.exchange-found-requires
exchange-found-requires g c =
    let m = c.requires.may in
    let left = c.bring_front.ensures.front m.0 m.1 in
    let is = put_in _ _ m.0 c.args.spot.place _ c.args.value c.slot_of.ensures left c.exchange-before.ensures.3 in
    let t = c.load.ensures.2 m.0 c.args.spot.place c.args.value (map emptied (without c.args.spot.place m.0.held)) is in
    (search rules, (Some c.args.value, full_out c.load.new.seat.me _ c.args.spot.place _ c.args.value (map emptied (without c.args.spot.place m.0.held)) c.slot_of-2.ensures t.2.3))

pub unreached-assert_unchecked-requires-in_default-found : goal.unreached-assert_unchecked-requires-in_default-found
unreached-assert_unchecked-requires-in_default-found g c =
    let m = c.requires.may in
    let left = c.bring_front.ensures.front m.0 m.1 in
    let is = put_in _ _ m.0 c.args.spot.place _ c.args.value c.slot_of.ensures left c.exchange-before.ensures.3 in
    let t = c.load.ensures.2 m.0 c.args.spot.place c.args.value (map emptied (without c.args.spot.place m.0.held)) is in
    absurd (c.in_default-found.not-Some c.args.value
    (taken_again c.load.new.seat.me c.exchange-found.new.seat.me _ c.args.spot.place _ c.args.value (map emptied (without c.args.spot.place m.0.held)) _ c.slot_of-2.ensures t.2.3 refl c.exchange-found.ensures.2 c.exchange-found.ensures.3).0)

pub returns-clause-value : goal.returns-clause-value
returns-clause-value g c =
    let m = c.requires.may in
    let left = c.bring_front.ensures.front m.0 m.1 in
    let is = put_in _ _ m.0 c.args.spot.place _ c.args.value c.slot_of.ensures left c.exchange-before.ensures.3 in
    let t = c.load.ensures.2 m.0 c.args.spot.place c.args.value (map emptied (without c.args.spot.place m.0.held)) is in
    same_Some _ _ (sym c.in-Some.is ∙ (taken_again c.load.new.seat.me c.exchange-found.new.seat.me _ c.args.spot.place _ c.args.value (map emptied (without c.args.spot.place m.0.held)) _ c.slot_of-2.ensures t.2.3 refl c.exchange-found.ensures.2 c.exchange-found.ensures.3).0)

pub returns-clause-settled : goal.returns-clause-settled
returns-clause-settled g c k sits =
    let left = c.bring_front.ensures.front k sits in
    let is = put_in _ _ k c.args.spot.place _ c.args.value c.slot_of.ensures left c.exchange-before.ensures.3 in
    let t = c.load.ensures.2 k c.args.spot.place c.args.value (map emptied (without c.args.spot.place k.held)) is in
    (t.0, t.1, (t.2.0, t.2.1, t.2.2, (taken_again c.load.new.seat.me c.exchange-found.new.seat.me _ c.args.spot.place _ c.args.value (map emptied (without c.args.spot.place k.held)) _ c.slot_of-2.ensures t.2.3 refl c.exchange-found.ensures.2 c.exchange-found.ensures.3).1))

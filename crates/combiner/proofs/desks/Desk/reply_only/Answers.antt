use Rattle.std.proofs.Common.{◌≤◌, ◌∙◌, ap, sym, arith, length, [], ◌∷◌}
use Rattle.std.proofs.lemmas.Option.{slice_get_within}
use Rattle.oplog.specs.Laid.{op_in}
use Rattle.combiner.specs.declared.places.Place.{Place}
use Rattle.combiner.specs.Slots.{is_claimed}
use Rattle.combiner.specs.Desks.{with_slot}
use Rattle.combiner.proofs.Placed.{place_of, put_place, low_in, low_taken, placed_still}
use Rattle.combiner.proofs.Counts.{Before}
use Rattle.combiner.proofs.Single.{slot_of_place, place_claimed, answered_place}
use Rattle.combiner.proofs.Single.{has_only_claimed, only_answer_kept, only_replied}
use Rattle.combiner.proofs.desks.Desk.reply_only.Goals as goal

pub offset_bounds-places-slot : goal.offset_bounds-places-slot
offset_bounds-places-slot c =
    let a = c.self.inside in
    let d = c.args.self.now in
    let most = c.self.invariant.1 in
    let fits : a.count ≤ length a.places = omega (arith, most) in
    let only = has_only_claimed c.args.slot c.requires.own.0 d c.requires.own.1 c.requires.own.2 in
    let low = low_in a c.args.slot d c.self.view_is fits (slice_get_within d.slots c.args.slot _ only.1.0) in
    omega (arith, low, most)

pub bounds-places-slot : goal.bounds-places-slot
bounds-places-slot c =
    let d = c.args.self.now in
    let only = has_only_claimed c.args.slot c.requires.own.0 d c.requires.own.1 c.requires.own.2 in
    low_taken c.self.inside c.args.slot d c.self.view_is (slice_get_within d.slots c.args.slot _ only.1.0)

pub reply_only-requires : goal.reply_only-requires
reply_only-requires c =
    let a = c.self.inside in
    let o : Place = c.index-places-slot.result in
    let p : Place = place_of a c.args.slot o in
    let only = has_only_claimed c.args.slot c.requires.own.0 c.args.self.now c.requires.own.1 c.requires.own.2 in
    let was = slot_of_place a c.args.slot o _ c.args.self.now c.self.view_is only.1.0 in
    record { claimed = place_claimed p.stage (op_in a.beside.items p.op) p.reply (ap (λ x. is_claimed x.stage) was) }

pub invariant_of-self : goal.invariant_of-self
invariant_of-self c =
    let a = c.self.inside in
    let is = c.self.invariant in
    let d = c.args.self.now in
    let s = c.args.slot in
    let o : Place = c.index-places-slot.result in
    let p : Place = c.reply_only.new.self in
    let most = is.1 in
    let fits : a.count ≤ length a.places = omega (arith, most) in
    let only = has_only_claimed s c.requires.own.0 d c.requires.own.1 c.requires.own.2 in
    let within = slice_get_within d.slots s _ only.1.0 in
    let before : Before a s d = (c.self.view_is, fits, within, (is.0, is.1, is.2, is.3)) in
    let put = c.reply_only.ensures.replied in
    let answered = answered_place a s o p _ c.args.reply d c.self.view_is only.1 put in
    let kept = only_answer_kept a _ s o p _ c.args.reply d before only.1 answered in
    let low = low_in a s d c.self.view_is fits within in
    (kept.0, kept.1, kept.2, kept.3, placed_still a _ s o p fits low (ap (λ q. q.op) put) is.4, is.5)

pub returns : goal.returns
returns c =
    let a = c.self.inside in
    let d = c.args.self.now in
    let s = c.args.slot in
    let o : Place = c.index-places-slot.result in
    let p : Place = c.reply_only.new.self in
    let most = c.self.invariant.1 in
    let fits : a.count ≤ length a.places = omega (arith, most) in
    let own = c.requires.own in
    let only = has_only_claimed s own.0 d own.1 own.2 in
    let answered = answered_place a s o p _ c.args.reply d c.self.view_is only.1 c.reply_only.ensures.replied in
    record {
      replied = λ r author.
          put_place a _ s p d c.self.view_is fits
          ∙ ap (with_slot d s) answered
          ∙ only_replied s _ r c.args.reply d only.1 (ap (λ n. n ∷ []) (author ∙ sym own.1) ∙ own.2);
    }

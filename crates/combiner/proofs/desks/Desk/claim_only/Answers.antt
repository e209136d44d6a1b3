use Rattle.std.proofs.Common.{◌≤◌, ◌∙◌, ap, sym, arith, length}
use Rattle.std.proofs.lemmas.Option.{slice_get_within}
use Rattle.oplog.specs.Laid.{op_in}
use Rattle.combiner.specs.declared.places.Place.{Place}
use Rattle.combiner.specs.Slots.{is_posted}
use Rattle.combiner.specs.Desks.{with_slot}
use Rattle.combiner.proofs.Placed.{place_of, put_place, low_in, placed_still}
use Rattle.combiner.proofs.Counts.{Before}
use Rattle.combiner.proofs.Single.{slot_of_place, place_posted, claimed_place}
use Rattle.combiner.proofs.Single.{has_only, only_claim_kept, only_free, only_claimed, only_batch}
use Rattle.combiner.proofs.desks.Desk.claim_only.Goals as goal

pub claim_only-count-requires : goal.claim_only-count-requires
claim_only-count-requires c =
    let a = c.self.inside in
    let o : Place = c.index-places-slot.result in
    let p : Place = place_of a c.args.slot o in
    let only = has_only c.args.slot c.requires.only.0 c.args.self.now c.requires.only.1 in
    let was = slot_of_place a c.args.slot o _ c.args.self.now c.self.view_is only.1.0 in
    record { posted = place_posted p.stage (op_in a.beside.items p.op) p.reply (ap (λ x. is_posted x.stage) was) }

pub invariant_of-self : goal.invariant_of-self
invariant_of-self c =
    let s = c.args.slot in
    let d = c.args.self.now in
    let only = has_only s c.requires.only.0 d c.requires.only.1 in
    let a = c.self.inside in
    let o : Place = c.index-places-slot.result in
    let p : Place = c.claim_only-count.new.self in
    let is = c.self.invariant in
    let most = is.1 in
    let fits : a.count ≤ length a.places = omega (arith, most) in
    let within = slice_get_within d.slots s _ only.1.0 in
    let before : Before a s d = (c.self.view_is, fits, within, (is.0, is.1, is.2, is.3)) in
    let put = c.claim_only-count.ensures.claimed in
    let claimed = claimed_place a s o p _ _ d c.self.view_is only.1 put in
    let kept = only_claim_kept a _ s o p _ _ d before only.1 claimed in
    let low = low_in a s d c.self.view_is fits within in
    (kept.0, kept.1, kept.2, kept.3, placed_still a _ s o p fits low (ap (λ q. q.op) put) is.4, is.5)

pub returns-clause-claimed : goal.returns-clause-claimed
returns-clause-claimed c =
    let a = c.self.inside in
    let d = c.args.self.now in
    let s = c.args.slot in
    let p : Place = c.claim_only-count.new.self in
    let most = c.self.invariant.1 in
    let fits : a.count ≤ length a.places = omega (arith, most) in
    let only = has_only s c.requires.only.0 d c.requires.only.1 in
    let put = c.claim_only-count.ensures.claimed in
    put_place a _ s p d c.self.view_is fits
    ∙ ap (with_slot d s) (claimed_place a s c.index-places-slot.result p _ _ d c.self.view_is only.1 put)
    ∙ only_claimed s _ _ d only.1

pub returns-clause-free : goal.returns-clause-free
returns-clause-free c =
    let only = has_only c.args.slot c.requires.only.0 c.args.self.now c.requires.only.1 in
    only_free c.args.slot c.requires.only.0 only.0 c.args.self.now only.1

pub returns-clause-batch : goal.returns-clause-batch
returns-clause-batch c = λ op h.
    let d = c.args.self.now in
    let s = c.args.slot in
    let only = has_only s op d h in
    let was = slot_of_place c.self.inside s c.index-places-slot.result _ d c.self.view_is only.1.0 in
    only_batch s op _ _ d only.1 (ap (λ x. x.count) (sym was) ∙ sym c.claim_only-count.ensures.count)

use Rattle.std.proofs.Common.{◌≡◌, ◌≤◌, [], ℕ, List, ap, sym, ◌∙◌, subst, arith, length, take}
use Rattle.std.proofs.lemmas.Option.{same_Some}
use Rattle.oplog.specs.Laid.{IsWithin}
use Rattle.combiner.specs.declared.places.Place.{Place}
use Rattle.combiner.specs.Claiming.{ClaimsSlot}
use Rattle.combiner.specs.Slots.{claimed_slot}
use Rattle.combiner.specs.Desks.{with_slot}
use Rattle.combiner.specs.Places.{slot_in}
use Rattle.combiner.proofs.Placed.{place_of, place_there, put_place, low_in, low_taken, placed_at, placed_still}
use Rattle.combiner.proofs.Claims.{claims_there}
use Rattle.combiner.proofs.Counts.{claims_kept}
use Rattle.combiner.proofs.desks.Desk.claim_slot.Goals as goal

pub claim-claimed-requires-clause-within : goal.claim-claimed-requires-clause-within
claim-claimed-requires-clause-within c =
    let a = c.self.inside in
    let o : Place = c.index-places-slot.result in
    let there = placed_at (length a.beside.items) 0 c.args.slot (take a.count a.places) o (low_taken a c.args.slot c.args.self.now c.self.view_is c.requires.slot) c.self.invariant.4 in
    subst (λ (bytes : List ℕ). IsWithin (length bytes) (place_of a c.args.slot o).op) (sym c.deref.ensures.value) there.1

pub returns-clause-desk : goal.returns-clause-desk
returns-clause-desk c =
    let a = c.self.inside in
    let p : Place = place_of a c.args.slot c.index-places-slot.result in
    let few = c.self.invariant.1 in
    let here = place_there a c.args.slot c.index-places-slot.result c.args.self.now c.self.view_is c.requires.slot in
    let claimed = subst (λ (b : List ℕ). slot_in b c.claim-claimed.new.self ≡ claimed_slot (slot_in b p)) c.deref.ensures.value c.claim-claimed.ensures.claimed in
    λ x at. put_place a _ c.args.slot c.claim-claimed.new.self c.args.self.now c.self.view_is (omega (arith, few))
    ∙ ap (with_slot c.args.self.now c.args.slot) (claimed ∙ ap claimed_slot (same_Some (slot_in a.beside.items p) x (sym here ∙ at)))

pub overflow_sub-self : goal.overflow_sub-self
overflow_sub-self c =
    let is = c.self.invariant in
    let few = is.1 in
    (claims_kept c.self.inside [] c.args.slot c.index-places-slot.result c.claim-claimed.new.self c.args.self.now c.claim-claimed.result _
    (c.self.view_is, omega (arith, few), c.requires.slot, (is.0, is.1, is.2, is.3)) c.deref.ensures.value c.claim-claimed.ensures.claimed c.claim-claimed.ensures.count).0

pub overflow_add-self : goal.overflow_add-self
overflow_add-self c =
    let is = c.self.invariant in
    let most = is.1 in
    let some =
    (claims_kept c.self.inside [] c.args.slot c.index-places-slot.result c.claim-claimed.new.self c.args.self.now c.claim-claimed.result _
    (c.self.view_is, omega (arith, most), c.requires.slot, (is.0, is.1, is.2, is.3)) c.deref.ensures.value c.claim-claimed.ensures.claimed c.claim-claimed.ensures.count).1 in
    omega (arith, most, some)

pub invariant_of-self : goal.invariant_of-self
invariant_of-self c =
    let a = c.self.inside in
    let is = c.self.invariant in
    let few = is.1 in
    let fits : a.count ≤ length a.places = omega (arith, few) in
    let kept =
    (claims_kept a _ c.args.slot c.index-places-slot.result c.claim-claimed.new.self c.args.self.now c.claim-claimed.result _
    (c.self.view_is, fits, c.requires.slot, (is.0, is.1, is.2, is.3)) c.deref.ensures.value c.claim-claimed.ensures.claimed c.claim-claimed.ensures.count) in
    let low = low_in a c.args.slot c.args.self.now c.self.view_is fits c.requires.slot in
    (kept.2.0, kept.2.1, kept.2.2, kept.2.3, placed_still a _ c.args.slot _ c.claim-claimed.new.self fits low c.claim-claimed.ensures.op is.4, is.5)

pub returns-clause-claims : goal.returns-clause-claims
returns-clause-claims c =
    let a = c.self.inside in
    let p : Place = place_of a c.args.slot c.index-places-slot.result in
    let here = place_there a c.args.slot c.index-places-slot.result c.args.self.now c.self.view_is c.requires.slot in
    let claims = subst (λ (b : List ℕ). ClaimsSlot (slot_in b p) c.author-author.result c.args.batch.now c.claim-claimed.new.batch) c.deref.ensures.value c.claim-claimed.ensures.claims in
    λ x at. claims_there x _ _ _ _ _ claims c.author-author.ensures.author (same_Some (slot_in a.beside.items p) x (sym here ∙ at))

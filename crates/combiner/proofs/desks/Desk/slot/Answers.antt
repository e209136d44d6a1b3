use Rattle.std.proofs.Common.{ℕ, List, length, take, sym, ap, ◌∙◌, subst}
use Rattle.std.specs.Prelude.{Some}
use Rattle.oplog.specs.Laid.{IsWithin}
use Rattle.combiner.specs.declared.places.Place.{Place}
use Rattle.combiner.specs.Places.{slot_in}
use Rattle.combiner.proofs.Placed.{place_there, low_taken, placed_at}
use Rattle.combiner.proofs.desks.Desk.slot.Goals as goal

pub slot-requires : goal.slot-requires
slot-requires c =
    let a = c.self.inside in
    let is = c.self.invariant in
    let there = placed_at (length a.beside.items) 0 c.args.slot (take a.count a.places) c.index-self-slot.result (low_taken a c.args.slot c.args.self.now c.self.view_is c.requires.slot) is.4 in
    record {
      within = subst (λ (bytes : List ℕ). IsWithin (length bytes) c.index-self-slot.result.op) (sym c.deref.ensures.value)
          (subst (λ (p : Place). IsWithin (length a.beside.items) p.op) (sym c.index-self-slot.is) there.1);
    }

pub returns : goal.returns
returns c =
    let a = c.self.inside in
    let p : Place = c.index-self-slot.result in
    record {
      slot = place_there a c.args.slot p c.args.self.now c.self.view_is c.requires.slot
          ∙ ap (λ q. Some (slot_in a.beside.items q)) (sym c.index-self-slot.is)
          ∙ ap (λ bytes. Some (slot_in bytes p)) (sym c.deref.ensures.value)
          ∙ ap Some (sym c.slot.ensures.slot);
    }

use Rattle.std.proofs.Common.{◌≡◌, ◌+◌, None, arith, refl, sym, ap, ◌∙◌, subst, length}
use Rattle.std.specs.Mem.Slots.{slots_items, slots_filled, slots_len}
use Rattle.std.specs.Mem.Slots.Ownership.{Filled}
use Rattle.std.proofs.lemmas.List.{length_push}
use Rattle.ownlock.specs.Words.{slot_of}
use Rattle.ownlock.specs.Seats.{At}
use Rattle.ownlock.specs.Spreading.{IsEmptied, StandsIn}
use Rattle.ownlock.proofs.Spread.{stands_more}
use Rattle.ownlock.proofs.Unload.{filled_with, emptied_with}
use Rattle.ownlock.proofs.spreading.unload.Goals as goal

pub skip_gap-requires : goal.skip_gap-requires
skip_gap-requires g c =
    let i = c.loop-place.invariant in
    let o = c.take.ensures.others in
    let slot = c.slot_of-slot.result in
    let is : slot ≡ slot_of c.loop-place.place = c.slot_of-slot.ensures in
    let count = slots_len c.loop-place.closed.slots in
    let fs = slots_filled c.loop-place.closed.slots in
    let all = c.requires.full.1 in
    let some = c.loop-place-test.true in
    let same : slots_items c.take.new.self.slots ≡ slots_items c.args.closed.slots = o.0 ∙ i.0 in
    record {
      there = omega (arith, is, all, some, o.2, i.1);
      nothing = λ a low high. subst (λ z. At (z + a) None (slots_items c.take.new.self.slots)) (sym is) (subst (λ l. At (slot_of c.loop-place.place + a) None l) (sym same) (c.requires.gaps c.loop-place.place a some low high));
      full = subst (λ n. Filled (slots_filled c.take.new.self.slots) (slot + 1) n) (sym o.2) (filled_with fs (slots_filled c.take.new.self.slots) slot (slot + 1) count o.1 refl (subst (λ z. Filled fs z count) (sym is) i.2));
      empty = emptied_with fs (slots_filled c.take.new.self.slots) slot (slot + 1) o.1 refl (subst (λ z. IsEmptied fs z) (sym is) i.3);
    }

pub loop-place-preserved : goal.loop-place-preserved
loop-place-preserved g c =
    let i = c.loop-place.invariant in
    let o = c.take.ensures.others in
    let s = c.skip_gap.ensures in
    let place = c.loop-place.place in
    let slot = c.slot_of-slot.result in
    let is : slot ≡ slot_of place = c.slot_of-slot.ensures in
    let next : slot + 8 ≡ slot_of (place + 1) = omega (arith, is) in
    let same = s.items.1 ∙ o.2 in
    let items = c.push_reserved.ensures.items in
    let here : At slot c.take.result (slots_items c.args.closed.slots) = subst (λ l. At slot c.take.result l) i.0 c.take.ensures.value in (
      s.items.0 ∙ (o.0 ∙ i.0),
      same ∙ i.1,
      subst (λ n. Filled (slots_filled c.skip_gap.new.closed.slots) n (slots_len c.skip_gap.new.closed.slots)) next s.full,
      subst (λ n. IsEmptied (slots_filled c.skip_gap.new.closed.slots) n) next s.empty,
      ap length items ∙ (length_push c.loop-place.room.items c.take.result ∙ ap (λ n. n + 1) i.4),
      subst (λ l. StandsIn l (slots_items c.args.closed.slots)) (sym items) (stands_more c.loop-place.room.items (slots_items c.args.closed.slots) c.take.result place slot i.4 is i.5 here),
      c.push_reserved.ensures.capacity ∙ i.6,
    )

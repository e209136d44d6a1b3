use Rattle.std.proofs.Common.{refl, sym, ap, ◌≡◌, ◌≤◌, ◌∙◌, ℕ, List, length, map, take, replicate, subst, arith}
use Rattle.std.proofs.lemmas.List.{take-replicate}
use Rattle.combiner.specs.declared.slots.Slot.{Slot}
use Rattle.combiner.specs.declared.slots.Stage.TheVariants.{Empty}
use Rattle.combiner.specs.declared.places.Place.{Place}
use Rattle.combiner.specs.Slots.{slot, is_posted, is_claimed}
use Rattle.combiner.specs.Desks.{DeskView}
use Rattle.combiner.specs.Places.{slot_in, how_many, ArePlaced}
use Rattle.combiner.proofs.Placed.{all_opened, placed_opened}
use Rattle.combiner.proofs.Counts.{none_opened}
use Rattle.combiner.proofs.desks.Desk.open.Goals as goal

-- the slots of a new desk
new_slots : (slots : ℕ) (p : Place) (beside : List ℕ) → slots ≤ 16 → ((b : List ℕ) → slot_in b p ≡ slot Empty 0) → map (slot_in beside) (take slots (replicate 16 p)) ≡ replicate slots (slot Empty 0)
new_slots slots p beside few empty = ap (map (slot_in beside)) (take-replicate slots 16 p few) ∙ all_opened (slot_in beside) slots p (slot Empty 0) (empty beside)

pub invariant_of-result : goal.invariant_of-result
invariant_of-result c =
    let beside : List ℕ = c.in_ok-beside.beside.items in
    let p : Place = c.default.result in
    let all : map (slot_in beside) (take c.args.slots (replicate 16 p)) ≡ replicate c.args.slots (slot Empty 0) = new_slots c.args.slots p beside c.requires.slots c.default.ensures.empty in
    let placed : ArePlaced (length beside) 0 (take c.args.slots (replicate 16 p)) =
    subst (ArePlaced (length beside) 0) (sym (take-replicate c.args.slots 16 p c.requires.slots)) (placed_opened (length beside) c.args.slots p (λ k. c.default.ensures.placed (length beside) k) 0) in
    let room = c.in_ok-beside.ensures.capacity in (
      c.requires.node,
      c.requires.slots,
      none_opened is_posted c.args.slots refl ∙ ap (how_many is_posted) (sym all),
      none_opened is_claimed c.args.slots refl ∙ ap (how_many is_claimed) (sym all),
      placed,
      omega (arith, room),
    )

pub returns : goal.returns
returns c =
    let with_slots : List Slot → DeskView = λ xs. record { node = c.args.node; slots = xs } in
    record { opened = ap with_slots (new_slots c.args.slots c.default.result c.in_ok-beside.beside.items c.requires.slots c.default.ensures.empty) }

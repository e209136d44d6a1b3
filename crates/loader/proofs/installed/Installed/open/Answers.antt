use Rattle.std.proofs.Common.{◌≡◌, List, length, refl, sym, ap, ◌∙◌, arith, subst}
use Rattle.std.proofs.lemmas.List.{length-replicate}
use Rattle.maps.specs.Shapes.{AreShapesSupported}
use Rattle.verifier.specs.Accepted.{AcceptedView, accepted_with, empty_room}
use Rattle.loader.specs.Installed.{AreRooms}
use Rattle.loader.proofs.Installing.{no_rooms, same_rooms}
use Rattle.loader.proofs.installed.Installed.open.Goals as goal

pub invariant_of-result : goal.invariant_of-result
invariant_of-result c =
    let slots = c.slots_for-slots.result in
    let rooms : List AcceptedView = c.in_ok-open_rooms.field-0.items in
    let room : AcceptedView = accepted_with (empty_room c.args.shapes.now) slots in
    let made = c.in_ok-open_rooms.ensures.rooms in
    let count : length rooms ≡ c.args.places = ap length made ∙ length-replicate c.args.places room in
    let shapes : AreShapesSupported c.in_ok-from_slice.field-0.items = subst AreShapesSupported (sym c.in_ok-from_slice.ensures.items) c.requires.shapes in (
      no_rooms c.in_ok-from_slice.field-0.items c.args.long rooms shapes (omega (arith, count, c.requires.places)) c.requires.long,
      omega arith,
      subst (AreRooms slots) (sym made) (same_rooms slots c.args.places room refl),
      c.slots_for-slots.ensures.enough,
      c.in_ok-with_capacity.ensures.capacity,
      c.in_ok-open.ensures.slots,
    )

use Rattle.std.proofs.Common.{◌≡◌, ◌≤◌, List, length, take, refl, sym, ap, ◌∙◌, arith, subst}
use Rattle.std.specs.List.{All}
use Rattle.std.proofs.lemmas.List.{length-replicate}
use Rattle.maps.specs.declared.shapes.Shape.{Shape}
use Rattle.verifier.specs.Accepted.{AcceptedView, accepted_with, empty_room}
use Rattle.loader.specs.Installed.{AreRooms, InstalledView, IsInstalled, IsShort, all_checked, first_rooms}
use Rattle.loader.proofs.Installing.{copied_rooms, first_count, from_first, same_rooms}
use Rattle.loader.proofs.installed.Installed.copy_of.Goals as goal

pub copy_rooms-requires-clause-rooms : goal.copy_rooms-requires-clause-rooms
copy_rooms-requires-clause-rooms c =
    let slots = c.slots_for-slots.result in
    subst (AreRooms slots) (sym c.in_ok-rooms.ensures.rooms) (same_rooms slots c.args.places (accepted_with (empty_room c.deref.result.now) slots) refl)

pub invariant_of-result : goal.invariant_of-result
invariant_of-result c =
    let from : List AcceptedView = c.from.inside.rooms.items in
    let rooms : List AcceptedView = c.copy_rooms.new.rooms.items in
    let n = c.from.inside.count in
    let long = c.args.long in
    let old : List Shape = c.from.inside.shapes.items in
    let shapes : c.in_ok-from_slice.field-0.items ≡ old = c.in_ok-from_slice.ensures.items ∙ c.deref-3.ensures.value in
    let room : AcceptedView = accepted_with (empty_room c.deref.result.now) c.slots_for-slots.result in
    let count : length rooms ≡ c.args.places = c.copy_rooms.ensures.count ∙ ap length c.in_ok-rooms.ensures.rooms ∙ length-replicate c.args.places room in
    let few : length (all_checked (take n from)) ≤ c.args.places = subst (λ (v : InstalledView). length v.programs ≤ c.args.places) (sym c.from.view_is) c.requires.few in
    let short : All (IsShort long) (all_checked (take n from)) = subst (λ (v : InstalledView). All (IsShort long) v.programs) (sym c.from.view_is) c.requires.short in
    let within : n ≤ length rooms = omega (arith, count, few, first_count from n c.from.invariant.1) in
    let same = from_first from c.deref-2.result.now rooms n c.deref-2.ensures.value c.from.invariant.1 c.copy_rooms.ensures.copied in
    let whole = copied_rooms old c.from.inside.long long from rooms n c.from.invariant.0 same short within (omega (arith, count, c.requires.places)) c.requires.long in (
      subst (λ (x : List Shape). IsInstalled (first_rooms x long rooms n)) (sym shapes) whole,
      within,
      c.copy_rooms.ensures.rooms,
      c.slots_for-slots.ensures.enough,
      c.in_ok-with_capacity.ensures.capacity,
      c.in_ok-open.ensures.slots,
    )

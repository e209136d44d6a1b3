use Rattle.std.proofs.Common.{[], ◌∷◌, ap, ◌∙◌, refl, sym, subst, length, arith}
use Rattle.std.specs.List.{All}
use Rattle.std.proofs.lemmas.List.{length-append}
use Rattle.std.proofs.lemmas.List.Elements.{All-push}
use Rattle.replica.specs.Refusals.{IsRoomFor}
use Rattle.store.proofs.opening.session_rooms.Goals as goal

pub loop-session-preserved : goal.loop-session-preserved
loop-session-preserved c =
    let room = c.in_ok-open.field-0 in
    let good : IsRoomFor c.args.catalogue.now.shapes c.args.catalogue.now.long room = subst (IsRoomFor c.args.catalogue.now.shapes c.args.catalogue.now.long) (sym c.in_ok-open.ensures.none) (refl, refl, omega arith) in
    let pushed = c.push_reserved.ensures.items in
    let more = ap length pushed ∙ length-append c.loop-session.rooms.items (room ∷ []) in
    record {
      rooms = subst (All (IsRoomFor c.args.catalogue.now.shapes c.args.catalogue.now.long)) (sym pushed) (All-push (IsRoomFor c.args.catalogue.now.shapes c.args.catalogue.now.long) c.loop-session.rooms.items room c.loop-session.invariant.rooms good);
      count = omega (arith, more, c.loop-session.invariant.count);
      capacity = omega (arith, c.push_reserved.ensures.capacity, c.loop-session.invariant.capacity);
    }

use Rattle.std.proofs.Common.{rules, ◌≡◌, ap, ◌∙◌, ◌<◌, [], ◌∷◌, ◌++◌, length, Some, refl, sym, subst, arith}
use Rattle.std.proofs.lemmas.List.{length-append}
use Rattle.std.proofs.lemmas.List.Elements.{All-pop}
use Rattle.replica.specs.Refusals.{IsRoomFor}
use Rattle.store.specs.Sessions.{HasRoom}
use Rattle.store_steps.specs.Shelving.{sessions_of}
use Rattle.store.proofs.Fresh.{fresh_long, idle_seats, next_seat, seated_more, starts_idle}
use Rattle.store.proofs.opening.push_sessions.Goals as goal

pub split-own-requires-clause-some : goal.split-own-requires-clause-some
split-own-requires-clause-some c =
    let g = c.loop-number.invariant.seated in
    let lt : c.loop-number.number < sessions_of c.args.setup.now.config = search rules in
    let n = next_seat c.args.setup.now.config c.args.setup.now.catalogue _ _ c.loop-number.number _ _ lt g in
    (_, _, n.2)

pub split-own-requires-clause-idle : goal.split-own-requires-clause-idle
split-own-requires-clause-idle c = idle_seats c.args.setup.now.config c.args.setup.now.catalogue _ _ c.loop-number.number _ _ c.loop-number.invariant.seated

pub new-requires : goal.new-requires
new-requires c =
    let g = c.loop-number.invariant.seated in
    let lt : c.loop-number.number < sessions_of c.args.setup.now.config = search rules in
    let n = next_seat c.args.setup.now.config c.args.setup.now.catalogue _ _ c.loop-number.number _ _ lt g in
    let t = c.split-own.ensures.apart _ _ n.2 in
    let popped : c.loop-number.rooms.items ≡ c.pop.new.self.items ++ c.in-Some.room ∷ [] = search rules in
    let room = (All-pop (IsRoomFor c.args.setup.now.catalogue.shapes c.args.setup.now.catalogue.long) c.loop-number.rooms.items c.pop.new.self.items (Some c.in-Some.room) popped c.loop-number.invariant.rooms).1 in
    record { room = subst (λ z. HasRoom c.in-Some.room (record { shelf = c.split-own.result.shelf; sessions = z })) (sym t.1) room; idle = starts_idle c.args.setup.now.config c.args.setup.now.catalogue c.split-own.result c.caller_of-caller.result c.loop-number.number t.1 lt c.caller_of-caller.ensures.own c.caller_of-caller.ensures.within }

pub push_reserved-requires : goal.push_reserved-requires
push_reserved-requires c =
    let g = c.loop-number.invariant.seated in
    let lt : c.loop-number.number < sessions_of c.args.setup.now.config = search rules in
    let long = ap length g.sessions_are ∙ fresh_long c.args.setup.now.config c.args.setup.now.catalogue c.args.shelf.now.id 0 c.loop-number.number in
    let room = c.requires.room.1 in
    let same = c.loop-number.invariant.capacity in
    let count = c.loop-number.sessions.ok.0 in
    omega (arith, lt, long, room, same, count)

pub loop-number-preserved : goal.loop-number-preserved
loop-number-preserved c =
    let g = c.loop-number.invariant.seated in
    let lt : c.loop-number.number < sessions_of c.args.setup.now.config = search rules in
    let popped : c.loop-number.rooms.items ≡ c.pop.new.self.items ++ c.in-Some.room ∷ [] = search rules in
    let fewer = ap length popped ∙ length-append c.pop.new.self.items (c.in-Some.room ∷ []) in
    record {
      rooms = (All-pop (IsRoomFor c.args.setup.now.catalogue.shapes c.args.setup.now.catalogue.long) c.loop-number.rooms.items c.pop.new.self.items (Some c.in-Some.room) popped c.loop-number.invariant.rooms).0;
      left = omega (arith, fewer, c.loop-number.invariant.left);
      seated = seated_more c.args.setup.now.config c.args.setup.now.catalogue c.args.shelf.now.id (sessions_of c.args.setup.now.config) c.loop-number.number _ c.loop-number.seat c.split-own.new.seat c.split-own.result c.loop-number.sessions.items c.push_reserved.new.self.items c.new.result refl lt g c.split-own.ensures.same.0 c.split-own.ensures.same.1 c.split-own.ensures.apart c.new.ensures.session c.push_reserved.ensures.items;
      capacity = c.push_reserved.ensures.capacity ∙ c.loop-number.invariant.capacity;
    }

use Rattle.std.proofs.Common.{◌≡◌, ◌*◌, ◌<◌, ◌≤◌, List, Ok, length, rules, arith, sym, subst}
use Rattle.insn.specs.Decoded.{decoded}
use Rattle.insn.specs.Layout.{size}
use Rattle.insn.proofs.Export.{are_bytes, read_is_spelled}
use Rattle.verifier.specs.Accepted.{AcceptedView, checked, checked_in}
use Rattle.verifier.specs.Signature.{signature}
use Rattle.verifier.specs.Typing.{IsTypable}
use Rattle.loader.specs.Installed.{InstalledView, most_argument, most_bytes}
use Rattle.loader.proofs.Installing.{few_slots, next_free, next_room, room_there, rooms_stay, short_and_accepted}
use Rattle.loader.proofs.installed.Installed.install.Goals as goal

pub verify_into-requires-clause-few : goal.verify_into-requires-clause-few
verify_into-requires-clause-few c =
    let bytes = c.args.bytes.now in
    let read : decoded bytes ≡ Ok c.decode_into.new.program.items = search rules in
    let spelled = read_is_spelled bytes c.decode_into.new.program.items (are_bytes bytes (λ k. omega (arith, c.type_inv.bytes k))) read in
    let few = few_slots bytes c.decode_into.new.program.items (most_bytes c.self.inside.long) spelled (search rules) in
    subst (λ p. size p ≤ c.self.inside.scratch) (sym c.deref-2.ensures.value) (omega (arith, few, c.self.invariant.3, c.self.invariant.5))

pub verify_into-requires-clause-room : goal.verify_into-requires-clause-room
verify_into-requires-clause-room c =
    let bytes = c.args.bytes.now in
    let rooms : List AcceptedView = c.self.inside.rooms.items in
    let read : decoded bytes ≡ Ok c.decode_into.new.program.items = search rules in
    let spelled = read_is_spelled bytes c.decode_into.new.program.items (are_bytes bytes (λ k. omega (arith, c.type_inv.bytes k))) read in
    let few = few_slots bytes c.decode_into.new.program.items (most_bytes c.self.inside.long) spelled (search rules) in
    let free : c.self.inside.count < length rooms = next_free c.self.inside.shapes.items c.self.inside.long rooms c.self.inside.count c.self.invariant.1 (subst (λ (v : InstalledView). length v.programs < v.places) (sym c.self.view_is) c.requires.free) in
    let roomy = room_there c.self.inside.slots rooms c.self.inside.count c.index_mut-room.result.now c.self.invariant.2 free c.index_mut-room.ensures.value in
    subst (λ p. size p ≤ c.index_mut-room.result.now.room) (sym c.deref-2.ensures.value) (omega (arith, few, c.self.invariant.3, roomy))

pub invariant_of-self-2 : goal.invariant_of-self-2
invariant_of-self-2 c =
    let bytes = c.args.bytes.now in
    let program = c.decode_into.new.program.items in
    let shapes = c.self.inside.shapes.items in
    let read : decoded bytes ≡ Ok program = search rules in
    let spelled = read_is_spelled bytes program (are_bytes bytes (λ k. omega (arith, c.type_inv.bytes k))) read in
    let long = c.self.inside.long in
    let few : 8 * size program ≤ most_bytes long = few_slots bytes program (most_bytes long) spelled (search rules) in
    let rooms : List AcceptedView = c.self.inside.rooms.items in
    let put : AcceptedView = c.verify_into.new.room in
    let same : checked_in put ≡ checked program shapes c.args.arg_len c.args.mode = search rules in
    let typable : IsTypable program (signature shapes c.args.arg_len c.args.mode) = search rules in
    let argument : c.args.arg_len ≤ most_argument long = search rules in
    let known = short_and_accepted program shapes c.args.arg_len c.args.mode long (checked_in put) spelled.each few c.self.invariant.0.shapes argument c.self.invariant.0.long_limit typable same in
    let free : c.self.inside.count < length rooms = next_free shapes long rooms c.self.inside.count c.self.invariant.1 (subst (λ (v : InstalledView). length v.programs < v.places) (sym c.self.view_is) c.requires.free) in
    let roomy : put.room ≡ c.self.inside.slots = search (rules, room_there c.self.inside.slots rooms c.self.inside.count c.index_mut-room.result.now c.self.invariant.2 free c.index_mut-room.ensures.value) in (
      next_room shapes long rooms c.self.inside.count put c.self.invariant.0 free known.0 known.1 known.2,
      search (rules, arith),
      rooms_stay c.self.inside.slots rooms c.self.inside.count put c.self.invariant.2 roomy,
      c.self.invariant.3,
      search (rules, arith),
      search rules,
    )

use Rattle.std.proofs.Common.{◌<◌, length, ap, ◌∙◌, arith}
use Rattle.std.proofs.lemmas.List.{length-set}
use Rattle.verifier.specs.Accepted.{AcceptedView, checked_in}
use Rattle.loader.proofs.Installing.{one_copied, room_there, rooms_stay, short_there}
use Rattle.loader.proofs.installed.copy_rooms.Goals as goal

pub copy_from-requires : goal.copy_from-requires
copy_from-requires c =
    let rooms = c.loop-k.rooms.items in
    let k = c.loop-k.k in
    let count = c.loop-k.invariant.count in
    let below = c.loop-k-test.true in
    let short = short_there c.args.long c.args.from.now k c.index-from-k.result c.requires.short (omega (arith, below)) c.index-from-k.is in
    let room = room_there c.args.slots rooms k c.index_mut.result.now c.loop-k.invariant.rooms (omega (arith, below, count, c.requires.room)) c.index_mut.ensures.value in
    let enough = c.requires.enough in
    record { few = omega (arith, short.slots, room, enough) }

pub loop-k-preserved : goal.loop-k-preserved
loop-k-preserved c =
    let rooms = c.loop-k.rooms.items in
    let k = c.loop-k.k in
    let count = c.loop-k.invariant.count in
    let below = c.loop-k-test.true in
    let new = c.copy_from.new.self in
    let free : k < length rooms = omega (arith, below, count, c.requires.room) in
    let room = room_there c.args.slots rooms k c.index_mut.result.now c.loop-k.invariant.rooms free c.index_mut.ensures.value in
    record {
      copied = one_copied c.args.from.now rooms k c.index-from-k.result new (omega (arith, below)) free c.index-from-k.is (ap checked_in c.copy_from.ensures.copied) c.loop-k.invariant.copied;
      rooms = rooms_stay c.args.slots rooms k new c.loop-k.invariant.rooms (ap (λ (a : AcceptedView). a.room) c.copy_from.ensures.copied ∙ room);
      count = length-set rooms k new ∙ count;
    }

use Rattle.std.proofs.Common.{◌+◌, ◌-◌, ◌*◌, length, refl, ap, arith}
use Rattle.maps.proofs.EntriesAt.{part_kept}
use Rattle.maps.proofs.scanning.put_part.Goals as goal

pub returns-clause-others : goal.returns-clause-others
returns-clause-others c =
    let n = c.args.n in
    let w = c.args.bytes.now in
    let size = length w in
    part_kept n size size (n * size + size - n * size) c.args.block.now c.copy_from_slice.new.self refl (omega arith) (ap length c.copy_from_slice.ensures.after) c.requires.room

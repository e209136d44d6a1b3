use Rattle.std.proofs.Common.{ap, length, le_refl, take}
use Rattle.std.proofs.lemmas.Slice.{between_to_end}
use Rattle.dumps.proofs.Remaining.{part_is}
use Rattle.dumps.proofs.pieces.put_part.Goals as goal

pub returns-clause-part : goal.returns-clause-part
returns-clause-part c =
    part_is _ _ _ c.args.lines.now c.args.next.now.byte c.min-count.result c.put.ensures.put
    (ap (take c.min-count.result) (between_to_end c.args.lines.now c.args.next.now.byte (length c.args.lines.now) (le_refl _)))

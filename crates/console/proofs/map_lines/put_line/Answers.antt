use Rattle.std.proofs.Common.{refl}
use Rattle.verifier.specs.Accepted.{checked_in}
use Rattle.console.specs.MapsAnswer.{maps_line}
use Rattle.console.proofs.map_lines.put_line.Goals as goal

pub returns : goal.returns
returns c =
    let maps = c.named_maps.result in
    (maps_line (record { name = c.args.name.now; checked = checked_in c.args.program.now }) maps, (maps, c.named_maps.ensures.named, refl), c.in_ok-put_fields.ensures)

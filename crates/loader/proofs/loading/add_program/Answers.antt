use Rattle.std.proofs.Common.{tests, arith, length, ◌<◌}
use Rattle.loader.proofs.ShapesFit.{shapes_are_ok}
use Rattle.loader.proofs.loading.add_program.Goals as goal

pub named_program-requires-clause-shapes : goal.named_program-requires-clause-shapes
named_program-requires-clause-shapes c =
    let some : 0 < length c.args.so_far.now.shapes.items = grind (arith, tests, c.is_empty.ensures, c.if-is_empty.ensures) in
    rw c.deref-2.ensures.value (shapes_are_ok c.requires.so_far.0 c.args.so_far.now.shapes.items c.requires.so_far.1.limits some c.requires.so_far.1.within c.requires.so_far.1.few_maps)

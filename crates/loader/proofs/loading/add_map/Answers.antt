use Rattle.std.proofs.Common.{rules, tests}
use Rattle.loader.specs.PartialView.{view_of}
use Rattle.loader.proofs.ShapesFit.{too_many}
use Rattle.loader.proofs.loading.add_map.Goals as goal

pub returns-in-Err : goal.returns-in-Err
returns-in-Err c = too_many c.args.limits.now (view_of c.args.so_far.now) c.args.shape (search (rules, tests)) c.requires.so_far c.requires.within (search rules)

use Rattle.std.proofs.Common.{◌∙◌, sym}
use Rattle.explain.proofs.Lines.{are_long, not_long}
use Rattle.explain.proofs.programs.listing.is_long.Goals as goal

pub returns-in-Some : goal.returns-in-Some
returns-in-Some c = not_long c.args.program.now _ (sym c.in-Some.is ∙ c.good_size.ensures)

pub returns-in-None : goal.returns-in-None
returns-in-None c = are_long c.args.program.now _ c.is_empty.ensures (sym c.in-None.is ∙ c.good_size.ensures)

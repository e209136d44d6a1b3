use Rattle.std.proofs.Common.{◌∙◌, sym}
use Rattle.realtime.proofs.Standings.{all_here}
use Rattle.realtime.proofs.ranks.standings.Goals as goal

pub returns : goal.returns
returns c = sym (all_here c.loop-line.lines.lines c.loop-line.standings.items c.in_default.ensures.taken.0) ∙ c.loop-line.invariant

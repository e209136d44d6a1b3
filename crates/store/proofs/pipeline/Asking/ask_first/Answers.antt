use Rattle.std.proofs.Common.{rules, refl}
use Rattle.store.proofs.pipeline.Asking.ask_first.Goals as goal

pub returns-clause-asked : goal.returns-clause-asked
returns-clause-asked g c = record { asked = c.ask.new.members; long = search rules; is = refl; same = c.ask.ensures.same.0; asks = c.ask.ensures.asked; in_order = c.ask.ensures.in_order; held = c.ask.ensures.held }

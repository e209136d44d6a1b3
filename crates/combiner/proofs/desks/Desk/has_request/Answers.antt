use Rattle.combiner.specs.Slots.{is_posted}
use Rattle.combiner.proofs.Counts.{any_there}
use Rattle.combiner.proofs.desks.Desk.has_request.Goals as goal

pub returns : goal.returns
returns c = record { request = any_there is_posted c.self.inside _ c.args.self.now c.self.invariant.2 c.self.view_is }

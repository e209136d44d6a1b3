use Rattle.combiner.specs.Slots.{is_claimed}
use Rattle.combiner.proofs.Counts.{any_there}
use Rattle.combiner.proofs.desks.Desk.claimed.Goals as goal

pub returns : goal.returns
returns c = record { claimed = any_there is_claimed c.self.inside _ c.args.self.now c.self.invariant.3 c.self.view_is }

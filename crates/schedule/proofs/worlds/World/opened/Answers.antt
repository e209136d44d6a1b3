use Rattle.std.proofs.Common.{rules, arith}
use Rattle.schedule.proofs.Runs.{new_stands, new_is_standing}
use Rattle.schedule.proofs.worlds.World.opened.Goals as goal

pub invariant_of-result : goal.invariant_of-result
invariant_of-result c = (new_is_standing _ _ _ (search rules) (search rules) (search rules) (search rules), search (rules, arith))

pub returns-clause-stands : goal.returns-clause-stands
returns-clause-stands c = new_stands _ _ _ (search rules) (search rules) (search rules)

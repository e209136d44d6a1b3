use Rattle.std.proofs.Common.{◌≡◌, ◌*◌, arith}
use Rattle.stress.proofs.teams.team_size.Goals as goal

pub returns-else-makes_teams-clause-whole : goal.returns-else-makes_teams-clause-whole
returns-else-makes_teams-clause-whole c =
    let slots = c.requires.within.slots.0 in
    let all = c.args.config.slots in
    record { some = omega arith; few = omega arith; parts = all; more = omega (arith, slots); slots = let e : all ≡ all * 1 = omega arith in e }

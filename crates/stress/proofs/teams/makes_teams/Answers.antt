use Rattle.std.proofs.Common.{rules, ◌≡◌, ◌%◌, ◌<◌, eq-eqb}
use Rattle.stress.proofs.EachTeam.{none_over, parts_of}
use Rattle.stress.proofs.teams.makes_teams.Goals as goal

pub returns-then-size-ne0 : goal.returns-then-size-ne0
returns-then-size-ne0 c =
    let some : 0 < c.args.size = search rules in (
      λ e. (some, parts_of c.args.config.slots c.args.size some (let none : c.args.config.slots % c.args.size ≡ 0 = search rules in none)),
      λ m. eq-eqb (c.args.config.slots % c.args.size) 0 (none_over c.args.config.slots c.args.size m.1.0 m.0 m.1.1),
    )

use Rattle.std.proofs.Common.{arith}
use Rattle.store_steps.proofs.Winning.{node_there, number_of, number_small}
use Rattle.store_steps.proofs.taking.win_line.Goals as goal

pub first-requires : goal.first-requires
first-requires c = let i = c.requires.idle in node_there c.args.here i.0 i.2.0 i.2.1

pub try_win-requires-clause-session : goal.try_win-requires-clause-session
try_win-requires-clause-session c = let i = c.requires.idle in (i.0, i.1, number_of c.args.here i.0 i.2.0 i.2.1)

pub try_win-requires-clause-few : goal.try_win-requires-clause-few
try_win-requires-clause-few c =
    let i = c.requires.idle in
    let small = number_small c.args.here i.0 i.2.0 i.2.1 in
    omega (arith, small)

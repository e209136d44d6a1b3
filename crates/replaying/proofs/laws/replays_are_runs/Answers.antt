use Rattle.replaying.proofs.ReplaysOfLines.{agreeing_lines_are_runs, replays_are_runs}
use Rattle.replaying.proofs.laws.replays_are_runs.Goals as goal

pub returns : goal.returns
returns c = record { lines = agreeing_lines_are_runs; replays = replays_are_runs }

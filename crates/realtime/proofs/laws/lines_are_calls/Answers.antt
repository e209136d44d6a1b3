use Rattle.realtime.proofs.Counting.{lines_are_calls}
use Rattle.realtime.proofs.laws.lines_are_calls.Goals as goal

pub returns : goal.returns
returns c = record { calls = lines_are_calls }

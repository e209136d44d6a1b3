use Rattle.encoding.proofs.ArgumentBytes.{calls_are_written}
use Rattle.encoding.proofs.WrittenLines.{lines_are_written}
use Rattle.encoding.proofs.laws.lines_are_calls.Goals as goal

pub returns : goal.returns
returns c = record { lines = lines_are_written; call = calls_are_written }

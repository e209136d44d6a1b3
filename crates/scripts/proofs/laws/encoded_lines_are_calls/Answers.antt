use Rattle.scripts.proofs.EncodedMeanings.{encoded_lines_mean}
use Rattle.scripts.proofs.laws.encoded_lines_are_calls.Goals as goal

pub returns : goal.returns
returns c = record { lines = encoded_lines_mean }

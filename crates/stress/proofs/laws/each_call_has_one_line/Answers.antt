use Rattle.stress.proofs.Transcripts.{each_call_has_one_line}
use Rattle.stress.proofs.laws.each_call_has_one_line.Goals as goal

pub returns : goal.returns
returns c = record { once = each_call_has_one_line }

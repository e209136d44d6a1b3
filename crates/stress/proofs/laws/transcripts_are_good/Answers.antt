use Rattle.stress.proofs.Found.{transcripts_are_good}
use Rattle.stress.proofs.laws.transcripts_are_good.Goals as goal

pub returns : goal.returns
returns c = record { good = transcripts_are_good }

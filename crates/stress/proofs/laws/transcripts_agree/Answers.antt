use Rattle.stress.proofs.Agreeing.{transcripts_agree}
use Rattle.stress.proofs.laws.transcripts_agree.Goals as goal

pub returns : goal.returns
returns c = record { agree = transcripts_agree }

use Rattle.running.proofs.SignedLines.{replies_are_told}
use Rattle.running.proofs.laws.replies_are_told.Goals as goal

pub returns : goal.returns
returns c = record { replies = replies_are_told }

use Rattle.realtime.proofs.InOtherWords.{turns_are_taken}
use Rattle.realtime.proofs.laws.turns_are_taken.Goals as goal

pub returns : goal.returns
returns c = record { turns = turns_are_taken }

use Rattle.realtime.proofs.InOtherWords.{good_is_real, differs_is_shown}
use Rattle.realtime.proofs.laws.good_is_real.Goals as goal

pub returns : goal.returns
returns c = record { good = good_is_real; differs = differs_is_shown }

use Rattle.loader.proofs.Widened.{wider_limits_keep_what_is_good}
use Rattle.loader.proofs.laws.wider_limits_keep_what_is_good.Goals as goal

pub returns : goal.returns
returns c = record { wider = wider_limits_keep_what_is_good }

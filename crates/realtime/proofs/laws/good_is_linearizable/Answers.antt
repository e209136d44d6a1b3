use Rattle.realtime.proofs.Linearizing.{good_is_linearizable}
use Rattle.realtime.proofs.laws.good_is_linearizable.Goals as goal

pub returns : goal.returns
returns c = record { linearizable = good_is_linearizable }

use Rattle.replica.proofs.Histories.{have_effects}
use Rattle.replica.proofs.laws.histories_have_effects.Goals as goal

pub returns : goal.returns
returns c = record { effects = λ catalogue history whole updates. have_effects catalogue whole history updates }

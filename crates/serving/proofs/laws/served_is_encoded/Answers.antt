use Rattle.serving.proofs.ServedValues.{served_is_encoded}
use Rattle.serving.proofs.laws.served_is_encoded.Goals as goal

pub returns : goal.returns
returns c = record { encoded = served_is_encoded }

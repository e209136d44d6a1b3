use Rattle.serving.proofs.Served.{served_parts}
use Rattle.serving.proofs.laws.served_in_parts.Goals as goal

pub returns : goal.returns
returns c = record { parts = served_parts }

use Rattle.loader.proofs.Outcomes.{loaded_is_offered}
use Rattle.loader.proofs.laws.loaded_is_offered.Goals as goal

pub returns : goal.returns
returns c = record { offered = loaded_is_offered }

use Rattle.named_maps.proofs.Named.{tested}
use Rattle.named_maps.proofs.laws.naming_is_tested.Goals as goal

pub returns : goal.returns
returns c = tested

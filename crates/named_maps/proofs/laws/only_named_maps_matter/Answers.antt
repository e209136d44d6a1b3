use Rattle.named_maps.proofs.Named.{others_stay_by_effect, others_unseen_by_effect}
use Rattle.named_maps.proofs.laws.only_named_maps_matter.Goals as goal

pub returns : goal.returns
returns c = record { stay = others_stay_by_effect; unseen = others_unseen_by_effect }

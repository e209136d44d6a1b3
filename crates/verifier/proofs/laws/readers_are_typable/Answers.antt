use Rattle.verifier.proofs.MoreMaps.{readers}
use Rattle.verifier.proofs.laws.readers_are_typable.Goals as goal

pub returns : goal.returns
returns c = readers

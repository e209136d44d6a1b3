use Rattle.verifier.proofs.VerdictLaws.{never_both}
use Rattle.verifier.proofs.laws.refused_is_untypable.Goals as goal

pub returns : goal.returns
returns c = never_both

use Rattle.verifier.proofs.VerdictLaws.{refused_iff}
use Rattle.verifier.proofs.laws.refusal_is_first_broken.Goals as goal

pub returns : goal.returns
returns c = refused_iff

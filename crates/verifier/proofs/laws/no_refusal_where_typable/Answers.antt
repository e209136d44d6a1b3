use Rattle.verifier.proofs.VerdictLaws.{accepted_iff}
use Rattle.verifier.proofs.laws.no_refusal_where_typable.Goals as goal

pub returns : goal.returns
returns c = accepted_iff

use Rattle.dumps.proofs.FirstBad.{refused_is_first_bad}
use Rattle.dumps.proofs.laws.refused_is_first_bad.Goals as goal

pub returns : goal.returns
returns c = refused_is_first_bad

use Rattle.loader.proofs.Outcomes.{refused_is_first_bad}
use Rattle.loader.proofs.laws.refused_is_first_bad.Goals as goal

pub returns : goal.returns
returns c = record { first = refused_is_first_bad }

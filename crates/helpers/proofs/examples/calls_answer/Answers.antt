use Rattle.helpers.proofs.Sequence.{answers}
use Rattle.helpers.proofs.examples.calls_answer.Goals as goal

pub returns : goal.returns
returns c = answers

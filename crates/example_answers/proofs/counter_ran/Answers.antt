use Rattle.example_answers.proofs.Ran.{counter_runs, kept_so}
use Rattle.example_answers.proofs.counter_ran.Goals as goal

pub returns : goal.returns
returns c = record { answer = kept_so c.make.result _ _ counter_runs c.make.ensures }

use Rattle.std.proofs.Common.{◌≡◌, subst}
use Rattle.std.specs.Prelude.{IfOk}
use Rattle.engine.specs.Report.{answer_of}
use Rattle.example_answers.proofs.Checked.{five_is}
use Rattle.example_answers.proofs.five_checked.Goals as goal

pub returns : goal.returns
returns c = record { answer = subst (λ a. IfOk c.make.result (λ r. answer_of r ≡ a)) five_is c.make.ensures }

use Rattle.std.proofs.Common.{◌≡◌, drop}
use Rattle.store_steps.specs.Questions.{first_refused_in}
use Rattle.store_steps.proofs.Numbered.{FirstMay}
use Rattle.store_steps.proofs.questions.check_each.Given as goal

abbrev pub invariant-loop-number : goal.invariant-loop-number
invariant-loop-number l = record {
  refused : first_refused_in l.mode l.catalogue 0 l.questions ≡ first_refused_in l.mode l.catalogue l.number (drop l.number l.questions);
  may : FirstMay l.mode l.catalogue l.questions l.number;
}

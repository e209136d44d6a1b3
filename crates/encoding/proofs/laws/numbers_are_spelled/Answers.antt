use Rattle.encoding.proofs.NumberTexts.{numbers_are_spelled}
use Rattle.encoding.proofs.laws.numbers_are_spelled.Goals as goal

pub returns : goal.returns
returns c = record { spelled = numbers_are_spelled }

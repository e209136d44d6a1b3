use Rattle.scripts.proofs.SpelledScripts.{each_line}
use Rattle.scripts.proofs.SpelledSteps.{each_step}
use Rattle.scripts.proofs.SpelledTold.{each_told}
use Rattle.scripts.proofs.laws.each_line_is_its_spelling.Goals as goal

pub returns : goal.returns
returns c = record { scripts = each_line; steps = each_step; transcripts = each_told }

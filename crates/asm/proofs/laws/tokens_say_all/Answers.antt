use Rattle.asm.proofs.Spaces.{tokens_say_all}
use Rattle.asm.proofs.laws.tokens_say_all.Goals as goal

pub returns : goal.returns
returns c = tokens_say_all

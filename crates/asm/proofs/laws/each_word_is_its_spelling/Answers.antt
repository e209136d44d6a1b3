use Rattle.asm.proofs.Table.{words_are_spelled}
use Rattle.asm.proofs.laws.each_word_is_its_spelling.Goals as goal

pub returns : goal.returns
returns c = record { spelling = words_are_spelled }

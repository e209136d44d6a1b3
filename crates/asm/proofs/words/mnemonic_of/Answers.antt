use Rattle.asm.specs.Words.{meaning_of}
use Rattle.asm.proofs.Table.{rows_have_words}
use Rattle.asm.proofs.words.mnemonic_of.Goals as goal

pub look_up-requires : goal.look_up-requires
look_up-requires c = rows_have_words

pub returns-clause-value : goal.returns-clause-value
unfolding meaning_of
returns-clause-value c = c.look_up.ensures.value

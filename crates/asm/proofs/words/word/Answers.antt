use Rattle.asm.proofs.Table.{rows_are_spelled, each_is_said}
use Rattle.asm.proofs.words.word.Goals as goal

pub spelling-requires-clause-spelled : goal.spelling-requires-clause-spelled
spelling-requires-clause-spelled c = rows_are_spelled

pub spelling-requires-clause-said : goal.spelling-requires-clause-said
spelling-requires-clause-said c = each_is_said c.args.mnemonic c.requires

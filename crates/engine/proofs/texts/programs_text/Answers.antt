use Rattle.engine.proofs.ProgramLines.{line_more}
use Rattle.engine.proofs.texts.programs_text.Goals as goal

pub loop-k-preserved : goal.loop-k-preserved
loop-k-preserved c = line_more c.args.catalogue.now.programs c.loop-k.k c.loop-k.out.items c.put_program_of.new.out.items c.loop-k.invariant c.in_ok-put_program_of.ensures

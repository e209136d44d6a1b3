use Rattle.dumps.proofs.lines.words_line.Goals as goal

pub returns-else-eq-clause-fits : goal.returns-else-eq-clause-fits
returns-else-eq-clause-fits c = c.entry_line.ensures.fits c.args.long

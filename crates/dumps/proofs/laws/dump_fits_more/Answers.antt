use Rattle.dumps.proofs.Widened.{dump_fits_more}
use Rattle.dumps.proofs.laws.dump_fits_more.Goals as goal

pub returns : goal.returns
returns c = dump_fits_more

use Rattle.dumps.proofs.Dumped.{text_is_dumped}
use Rattle.dumps.proofs.laws.text_is_dumped.Goals as goal

pub returns : goal.returns
returns c = text_is_dumped

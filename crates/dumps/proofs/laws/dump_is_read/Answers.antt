use Rattle.dumps.proofs.Ascii.{dump_is_text}
use Rattle.dumps.proofs.Reread.{dump_is_read}
use Rattle.dumps.proofs.laws.dump_is_read.Goals as goal

pub returns : goal.returns
returns c = record { text = dump_is_text; read = dump_is_read }

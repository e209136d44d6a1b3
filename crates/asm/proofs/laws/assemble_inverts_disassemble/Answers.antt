use Rattle.asm.proofs.RoundTrip.{read_back}
use Rattle.asm.proofs.laws.assemble_inverts_disassemble.Goals as goal

pub returns : goal.returns
returns c = read_back

use Rattle.insn.proofs.Laws.{read_is_refused, refused_is_read}
use Rattle.insn.proofs.decoding.decoded_is_refused.Goals as goal

pub returns : goal.returns
returns c = λ bytes h e. (read_is_refused bytes e h, refused_is_read bytes e)

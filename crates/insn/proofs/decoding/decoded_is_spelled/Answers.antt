use Rattle.insn.proofs.Laws.{read_is_spelled, spelled_is_read}
use Rattle.insn.proofs.decoding.decoded_is_spelled.Goals as goal

pub returns : goal.returns
returns c = λ bytes h p. (read_is_spelled bytes p h, spelled_is_read bytes p)

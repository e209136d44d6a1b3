use Rattle.encoding.proofs.ReadBack.{unsigned_back, signed_back}
use Rattle.encoding.proofs.laws.numbers_are_read_back.Goals as goal

pub returns : goal.returns
returns c = record { unsigned = unsigned_back; signed = λ n z size within. signed_back n z size within.0 within.1 }

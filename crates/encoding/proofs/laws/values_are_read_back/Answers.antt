use Rattle.encoding.proofs.NumberTexts.{signed_are_back, signed_are_taken, unsigned_are_back, unsigned_are_taken}
use Rattle.encoding.proofs.laws.values_are_read_back.Goals as goal

pub returns : goal.returns
returns c = record { unsigned = unsigned_are_back; signed = signed_are_back; each_unsigned = unsigned_are_taken; each_signed = signed_are_taken }

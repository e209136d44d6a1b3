use Rattle.encoding.proofs.DecodedValues.{values_are_encoded, values_are_of_their_bytes}
use Rattle.encoding.proofs.laws.values_are_of_their_bytes.Goals as goal

pub returns : goal.returns
returns c = record { spelled = values_are_of_their_bytes; encoded = values_are_encoded }

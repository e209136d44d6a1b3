use Rattle.text.proofs.Numerals.{numerals_are_decimals}
use Rattle.text.proofs.laws.numerals_are_decimals.Goals as goal

pub returns : goal.returns
returns c = record { decimal = numerals_are_decimals }

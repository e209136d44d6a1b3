use Rattle.realtime.proofs.InOtherWords.{places_are_real, misplaced_is_shown}
use Rattle.realtime.proofs.laws.places_are_real.Goals as goal

pub returns : goal.returns
returns c = record { places = places_are_real; shown = misplaced_is_shown }

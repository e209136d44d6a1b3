use Rattle.verifier.proofs.Known.{joined_is_known, known_is_joined, known_where_reached}
use Rattle.verifier.proofs.laws.frames_are_joins.Goals as goal

pub returns : goal.returns
returns c = record { known = joined_is_known; only = known_is_joined; reached = known_where_reached }

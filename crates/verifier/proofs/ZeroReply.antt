-- The smallest program is accepted for all maps.
use Rattle.std.proofs.Common.{◌≡◌, None, refl}
use Rattle.std.specs.Prelude.{List}
use Rattle.maps.specs.declared.shapes.Shape.{Shape}
use Rattle.flow.specs.Faults.{reached_slots, first_rule, lowest_fault, structure_fault}
use Rattle.verifier.specs.Joined.{joined_frames}
use Rattle.verifier.specs.Verdict.{lowest_refusal, verdict}
use Rattle.verifier.specs.Accepted.{zero_reply, empty_room, signature_of}

pub is_accepted : (shapes : List Shape) → verdict zero_reply (signature_of (empty_room shapes)) ≡ None
unfolding verdict structure_fault lowest_fault first_rule reached_slots lowest_refusal joined_frames
is_accepted shapes = refl

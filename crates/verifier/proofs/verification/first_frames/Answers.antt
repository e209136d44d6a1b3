use Rattle.std.proofs.Common.{None, [], ◌∷◌, ◌++◌, ap, ◌∙◌}
use Rattle.std.proofs.lemmas.List.{replicate-append-replicate}
use Rattle.verifier.proofs.verification.first_frames.Goals as goal

pub loop-slot-preserved : goal.loop-slot-preserved
loop-slot-preserved c = (
  c.push_reserved.ensures.items ∙ ap (λ l. l ++ (None ∷ [])) c.loop-slot.invariant.0 ∙ replicate-append-replicate c.loop-slot._slot 1 None,
  c.push_reserved.ensures.capacity ∙ c.loop-slot.invariant.1,
)

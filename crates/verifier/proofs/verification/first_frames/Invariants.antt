use Rattle.std.proofs.Common.{◌≡◌, None}
use Rattle.std.specs.Prelude.{replicate, vec_capacity}
use Rattle.verifier.proofs.verification.first_frames.Given as goal

abbrev pub invariant-loop-slot : goal.invariant-loop-slot
invariant-loop-slot l = (l.frames.items ≡ replicate l._slot None) × (vec_capacity l.frames ≡ vec_capacity l.fn.frames)

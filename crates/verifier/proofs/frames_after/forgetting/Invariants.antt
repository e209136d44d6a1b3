use Rattle.std.proofs.Common.{◌≡◌}
use Rattle.verifier.specs.FrameAfter.{forgetting}
use Rattle.verifier.proofs.frames_after.forgetting.Given as goal

-- the registers so far have forgotten
abbrev pub invariant-loop-register : goal.invariant-loop-register
invariant-loop-register l = l.after ≡ forgetting l.map l.f l.register

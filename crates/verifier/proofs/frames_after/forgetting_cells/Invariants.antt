use Rattle.std.proofs.Common.{◌≡◌}
use Rattle.verifier.specs.FrameAfter.{forgetting_cells}
use Rattle.verifier.proofs.frames_after.forgetting_cells.Given as goal

-- the cells so far have forgotten
abbrev pub invariant-loop-c : goal.invariant-loop-c
invariant-loop-c l = l.after ≡ forgetting_cells l.map l.f l.c

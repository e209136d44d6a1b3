use Rattle.std.proofs.Common.{◌≡◌, ◌++◌, drop}
use Rattle.std.specs.Prelude.{filter, is_some}
use Rattle.verifier.specs.Joined.{frame_in}
use Rattle.explain.proofs.programs.Study.falls_into.Given as goal

abbrev pub invariant-loop-from : goal.invariant-loop-from
invariant-loop-from l =
    l.known.items ++ filter (λ s. is_some (frame_in l.self.known.frames.items s)) (drop l.from-index l.from-items) ≡ filter (λ s. is_some (frame_in l.self.known.frames.items s)) l.from-items

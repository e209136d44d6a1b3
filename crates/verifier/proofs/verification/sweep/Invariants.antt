use Rattle.std.proofs.Common.{◌≡◌, take}
use Rattle.std.specs.Prelude.{vec_capacity}
use Rattle.insn.specs.Layout.{size}
use Rattle.verifier.proofs.Sweep.{Swept}
use Rattle.verifier.proofs.verification.sweep.Given as goal

abbrev pub invariant-loop-insn : goal.invariant-loop-insn
invariant-loop-insn l =
    (l.slot ≡ size (take l.insn-index l.program))
    × Swept l.program l.l l.frames.items l.slot
    × (vec_capacity l.frames ≡ vec_capacity l.fn.frames)

use Rattle.std.proofs.Common.{◌≡◌, ◌<◌, ◌≤◌, take}
use Rattle.std.specs.Prelude.{min}
use Rattle.insn.specs.declared.instruction.TheConstants.{MAX_SLOTS}
use Rattle.insn.specs.Layout.{size}
use Rattle.explain.proofs.Slots.{into}
use Rattle.explain.proofs.programs.slots_into.Given as goal

abbrev pub invariant-loop-insn : goal.invariant-loop-insn
invariant-loop-insn l =
    size l.program ≤ MAX_SLOTS → l.to < size l.program → (l.from ≡ size (take l.insn-index l.program)) × (l.found.items ≡ into l.program l.edge l.to (min l.from l.to))

use Rattle.std.proofs.Common.{◌≡◌, ◌≤◌, length}
use Rattle.insn.specs.declared.instruction.TheConstants.{MAX_SLOTS}
use Rattle.asm.specs.Labels.{marks_of}
use Rattle.asm.specs.Assembled.{onto, assembled_from, assembled}
use Rattle.asm.proofs.assembling.assemble.Given as goal

abbrev pub invariant-loop-line : goal.invariant-loop-line
invariant-loop-line l =
    (l.slot ≤ MAX_SLOTS) × (onto l.program.items (assembled_from (marks_of l.labels) l.lines.number l.slot l.lines.lines) ≡ assembled l.text)

abbrev pub decreases-loop-line : goal.decreases-loop-line
decreases-loop-line l = length l.lines.lines

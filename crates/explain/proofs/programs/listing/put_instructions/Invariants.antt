use Rattle.std.proofs.Common.{◌≤◌}
use Rattle.std.specs.String.{string_bytes}
use Rattle.insn.specs.declared.instruction.TheConstants.{MAX_SLOTS}
use Rattle.insn.specs.Layout.{size}
use Rattle.explain.specs.Slots.{told_upto}
use Rattle.explain.proofs.Lines.{SoFar}
use Rattle.explain.proofs.programs.listing.put_instructions.Given as goal

abbrev pub invariant-loop-insn : goal.invariant-loop-insn
invariant-loop-insn l =
    size l.study.subject.program.now ≤ MAX_SLOTS
    → SoFar (told_upto l.study.subject.program.now l.study.known.kinds) l.listed l.insn-index l.slot (string_bytes l.initial.out) (string_bytes l.out)

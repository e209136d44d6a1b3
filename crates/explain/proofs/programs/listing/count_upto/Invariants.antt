use Rattle.std.proofs.Common.{◌≡◌, ◌≤◌}
use Rattle.insn.specs.declared.instruction.TheConstants.{MAX_SLOTS}
use Rattle.insn.specs.Layout.{size}
use Rattle.explain.proofs.Lines.{CountedTo}
use Rattle.explain.proofs.programs.listing.count_upto.Given as goal

abbrev pub invariant-loop-insn : goal.invariant-loop-insn
invariant-loop-insn l = record { count : l.count ≡ l.insn-index; counted : size l.program ≤ MAX_SLOTS → CountedTo l.program l.last l.insn-index l.slot }

use Rattle.std.proofs.Common.{◌≡◌, ℕ, ◌<◌, false, get_or}
use Rattle.insn.specs.declared.instruction.Form.TheVariants.{Exit}
use Rattle.verifier.specs.Accepted.{slot_of}
use Rattle.named_maps.specs.Naming.{is_outside}
use Rattle.named_maps.proofs.naming.outside_in.Given as goal

abbrev pub invariant-loop-insn : goal.invariant-loop-insn
invariant-loop-insn l = (l.slot ≡ slot_of l.program l.insn-index) × ((k : ℕ) → k < l.insn-index → is_outside l.maps (get_or l.program k Exit) ≡ false)

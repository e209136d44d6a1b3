use Rattle.std.proofs.Common.{◌≡◌, ℕ, true, take}
use Rattle.std.specs.Prelude.{◌↔◌}
use Rattle.named_maps.specs.Naming.{IsIn, names}
use Rattle.named_maps.proofs.naming.named_in.Given as goal

abbrev pub invariant-loop-insn : goal.invariant-loop-insn
invariant-loop-insn l = (m : ℕ) → IsIn l.maps m ↔ (names m (take l.insn-index l.program) ≡ true)

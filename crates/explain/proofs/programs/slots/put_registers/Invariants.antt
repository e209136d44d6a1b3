use Rattle.std.proofs.Common.{◌≡◌, ◌++◌}
use Rattle.std.specs.Prelude.{flat_map, option_map}
use Rattle.std.specs.List.{range_with_len}
use Rattle.std.specs.String.{string_bytes}
use Rattle.explain.specs.Slots.{register_told}
use Rattle.explain.proofs.programs.slots.put_registers.Given as goal

abbrev pub invariant-loop-register : goal.invariant-loop-register
invariant-loop-register l = string_bytes l.out ≡ string_bytes l.initial.out ++ flat_map (register_told (option_map (λ f. f.now) l.before) l.frame) (range_with_len 0 l.register)

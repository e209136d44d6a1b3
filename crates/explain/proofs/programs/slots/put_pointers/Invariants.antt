use Rattle.std.proofs.Common.{◌≡◌, ◌++◌}
use Rattle.std.specs.Prelude.{flat_map, option_map}
use Rattle.std.specs.List.{range_with_len}
use Rattle.std.specs.String.{string_bytes}
use Rattle.regkind.specs.Frames.{cell}
use Rattle.explain.specs.Slots.{cell_in, cell_told}
use Rattle.explain.proofs.programs.slots.put_pointers.Given as goal

abbrev pub invariant-loop-cell : goal.invariant-loop-cell
invariant-loop-cell l = string_bytes l.out ≡ string_bytes l.initial.out ++ flat_map (λ c. cell_told c (cell_in (option_map (λ f. f.now) l.before) c) (cell l.frame c)) (range_with_len 0 l.cell)

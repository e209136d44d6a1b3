use Rattle.std.proofs.Common.{◌≡◌, ◌++◌}
use Rattle.std.specs.Prelude.{flat_map, option_map}
use Rattle.std.specs.List.{range_with_len}
use Rattle.std.specs.String.{string_bytes}
use Rattle.explain.specs.Slots.{is_new, row_told}
use Rattle.explain.proofs.programs.slots.put_bytes.Given as goal

abbrev pub invariant-loop-first : goal.invariant-loop-first
invariant-loop-first l = string_bytes l.out ≡ string_bytes l.initial.out ++ flat_map (row_told l.known (is_new l.known (option_map (λ f. f.now) l.before) l.frame)) (range_with_len 0 l.first)

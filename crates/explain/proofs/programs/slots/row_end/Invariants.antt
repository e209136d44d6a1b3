use Rattle.std.proofs.Common.{◌≡◌, ◌+◌}
use Rattle.std.specs.Prelude.{option_map}
use Rattle.explain.specs.Slots.{is_new, row_end}
use Rattle.explain.proofs.Slots.{in_row}
use Rattle.explain.proofs.programs.slots.row_end.Given as goal

abbrev pub invariant-loop-next : goal.invariant-loop-next
invariant-loop-next l =
    row_end (is_new l.known (option_map (λ f. f.now) l.before) l.frame) l.first + 1 ≡ l.next + in_row (is_new l.known (option_map (λ f. f.now) l.before) l.frame) l.next

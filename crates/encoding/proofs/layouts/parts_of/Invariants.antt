use Rattle.std.proofs.Common.{◌≡◌, ◌++◌}
use Rattle.std.specs.Prelude.{option_map}
use Rattle.encoding.specs.Layouts.{parts_of}
use Rattle.encoding.specs.Shown.{words_behind}
use Rattle.encoding.specs.Words.{words_of}
use Rattle.encoding.proofs.ValueSteps.{bytes_left}
use Rattle.encoding.proofs.layouts.parts_of.Given as goal

abbrev pub invariant-loop-left : goal.invariant-loop-left
invariant-loop-left l = option_map (λ ps. l.parts.items ++ ps) (parts_of (words_behind (option_map (λ t. t.now) l.left))) ≡ parts_of (words_of l.words)

abbrev pub decreases-loop-left : goal.decreases-loop-left
decreases-loop-left l = bytes_left (option_map (λ t. t.now) l.left)

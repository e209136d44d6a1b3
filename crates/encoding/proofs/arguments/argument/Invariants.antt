use Rattle.std.proofs.Common.{◌≡◌, ◌+◌, ◌*◌, ◌≤◌, [], length}
use Rattle.std.specs.Prelude.{IfSome, option_map}
use Rattle.text.specs.declared.lines.TheConstants.{LINE_BYTES}
use Rattle.encoding.specs.Words.{words_of}
use Rattle.encoding.specs.Shown.{words_behind}
use Rattle.encoding.specs.Encoded.{argument_from}
use Rattle.encoding.proofs.ValueSteps.{bytes_left}
use Rattle.encoding.proofs.arguments.argument.Given as goal

abbrev pub invariant-loop-left : goal.invariant-loop-left
invariant-loop-left l =
    (argument_from l.column l.argument.items (words_behind (option_map (λ t. t.now) l.left)) ≡ argument_from l.start [] (words_of l.values))
    × IfSome l.left (λ t. (l.column + length t.now ≤ 2 * LINE_BYTES) × (length t.now ≤ LINE_BYTES))

abbrev pub decreases-loop-left : goal.decreases-loop-left
decreases-loop-left l = bytes_left (option_map (λ t. t.now) l.left)

use Rattle.std.proofs.Common.{◌≡◌, map, take}
use Rattle.stress.specs.Playing.{history_text}
use Rattle.stress.specs.Shown.{timed_of}
use Rattle.stress.proofs.lines.history_text.Given as goal

abbrev pub invariant-loop-one : goal.invariant-loop-one
invariant-loop-one l = l.out.items ≡ history_text (map timed_of (take l.one-index l.told))

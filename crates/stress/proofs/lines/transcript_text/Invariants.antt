use Rattle.std.proofs.Common.{◌≡◌, map, take}
use Rattle.stress.specs.Lines.{transcript_text}
use Rattle.stress.specs.Shown.{told_of}
use Rattle.stress.proofs.lines.transcript_text.Given as goal

abbrev pub invariant-loop-one : goal.invariant-loop-one
invariant-loop-one l = l.out.items ≡ transcript_text l.catalogue (map told_of (take l.one-index l.told))

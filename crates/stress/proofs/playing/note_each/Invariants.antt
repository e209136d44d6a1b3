use Rattle.stress.proofs.EachTeam.{GrownSo}
use Rattle.stress.proofs.playing.note_each.Given as goal

abbrev pub invariant-loop-number : goal.invariant-loop-number
invariant-loop-number l = GrownSo l.number l.initial.told l.told l.answers.items

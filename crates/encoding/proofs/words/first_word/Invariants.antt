use Rattle.encoding.proofs.FirstWords.{AreSeen}
use Rattle.encoding.proofs.words.first_word.Given as goal

abbrev pub invariant-loop-i : goal.invariant-loop-i
invariant-loop-i l = AreSeen l.text l.i l.quoted

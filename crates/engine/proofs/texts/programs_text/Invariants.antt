use Rattle.std.proofs.Common.{◌≡◌, take}
use Rattle.engine.specs.Texts.{programs_text}
use Rattle.engine.proofs.texts.programs_text.Given as goal

abbrev pub invariant-loop-k : goal.invariant-loop-k
invariant-loop-k l = l.out.items ≡ programs_text (take l.k l.catalogue.programs)

use Rattle.console.specs.FindAnswer.{AddsStrangers}
use Rattle.console.proofs.objects.Find.with_files.Given as goal

abbrev pub invariant-loop-name : goal.invariant-loop-name
invariant-loop-name g l = AddsStrangers l.initial.text.items l.text.items

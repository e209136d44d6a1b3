use Rattle.std.proofs.Common.{ℕ, Vec, sym, subst}
use Rattle.std.specs.Global.{Global}
use Rattle.console.specs.FindAnswer.{AddsStrangers}
use Rattle.console.proofs.Strangers.{both_added}
use Rattle.console.proofs.objects.Find.with_files.Goals as goal
use Rattle.console.proofs.objects.Find.with_files.Goals.{then-ne+in_ok-text, else-ne}

pub loop-name-preserved : goal.loop-name-preserved
loop-name-preserved g c =
    elim c.if-ne.branch [
      | then-ne+in_ok-text w ↦ subst (λ (t : Vec ℕ Global). AddsStrangers c.args.text.items t.items) (sym w.text-is) (both_added c.args.text.items c.loop-name.text.items w.in_ok-text.text.items c.loop-name.invariant w.in_ok-text.ensures)
      | else-ne w ↦ subst (λ (t : Vec ℕ Global). AddsStrangers c.args.text.items t.items) (sym w.text-is) c.loop-name.invariant
    ]

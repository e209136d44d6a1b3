use Rattle.std.proofs.Common.{subst, sym, IfOk}
use Rattle.console.specs.FindAnswer.{AddsStrangers}
use Rattle.console.proofs.Strangers.{line_added, none_added}
use Rattle.console.proofs.objects.Find.with_file.Goals as goal
use Rattle.console.proofs.objects.Find.with_file.Goals.{in-Some, in-None}

pub returns : goal.returns
returns g c =
    elim c.match-branch-2.branch [
      | in-Some w ↦ subst (λ r. IfOk r (λ v. AddsStrangers c.args.text.items v.items)) (sym w.result-is) (line_added _ _ c.args.name.now w.with_stranger.ensures.text)
      | in-None w ↦ subst (λ r. IfOk r (λ v. AddsStrangers c.args.text.items v.items)) (sym w.result-is) (none_added c.args.text.items)
    ]

use Rattle.std.proofs.Common.{◌≡◌, sym, ap, refl, length, Some, ◌∙◌}
use Rattle.std.proofs.lemmas.List.{append-nil}
use Rattle.loader.specs.CatalogueView.{CatalogueView}
use Rattle.scripts.specs.ScriptShown.{step_of}
use Rattle.scripts.specs.StepLine.{Comment, step_line_meaning}
use Rattle.scheduling.specs.ScheduleAnswer.{step_line_turn}
use Rattle.scheduling.proofs.step_lists.Stepping.take_step.Goals as goal

pub returns-in_default-2-clause-taken : goal.returns-in_default-2-clause-taken
unfolding step_line_turn
returns-in_default-2-clause-taken c =
    let catalogue = c.args.self.now.world.opening.catalogue in
    let comment : step_of c.in-Some.line ≡ Comment = rw c.in_default-2.is at c.in_ok-step.ensures in
    let count : c.len-programs.result ≡ length catalogue.programs = c.len-programs.ensures.count ∙ ap (λ (x : CatalogueView). length x.programs) c.catalogue.ensures.catalogue in
    let told : step_line_meaning (length catalogue.programs) c.args.line.now ≡ Some (step_of c.in-Some.line) = ap (λ n. step_line_meaning n c.args.line.now) (sym count) ∙ sym c.in-Some.ensures in
    rw (told, comment) (refl, sym (append-nil c.args.self.now.text.items), refl)

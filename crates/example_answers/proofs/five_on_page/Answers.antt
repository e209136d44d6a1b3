use Rattle.std.proofs.Common.{refl, ◌∙◌}
use Rattle.engine.specs.Report.{answer_of}
use Rattle.example_answers.specs.Five.{five_checked}
use Rattle.example_answers.proofs.Checked.{five_is}
use Rattle.example_answers.proofs.OnPage.{none_failed, on_page}
use Rattle.example_answers.proofs.five_on_page.Goals as goal

pub returns : goal.returns
returns c =
    record {
      page = on_page answer_of _ _ c.perform-status.result c.perform-status.new.writer five_checked (λ r is. is ∙ five_is) refl
          (rw c.new.ensures.items at c.perform-status.ensures.written) c.perform-status.ensures.failed (λ failed. search none_failed);
    }

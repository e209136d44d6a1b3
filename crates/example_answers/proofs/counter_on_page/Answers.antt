use Rattle.std.proofs.Common.{refl, ap, ◌∙◌}
use Rattle.engine.specs.Report.{answer_of}
use Rattle.running.specs.KeptRun.{KeptRun}
use Rattle.example_answers.specs.Counter.{counter_ran}
use Rattle.example_answers.proofs.Ran.{counter_runs}
use Rattle.example_answers.proofs.OnPage.{none_failed, on_page}
use Rattle.example_answers.proofs.counter_on_page.Goals as goal

pub returns : goal.returns
returns c =
    record {
      page = on_page (λ k. answer_of k.reply) _ _ c.perform-status.result c.perform-status.new.writer counter_ran
          (λ k is. ap (λ (x : KeptRun). x.answer) is ∙ counter_runs) refl (rw c.new.ensures.items at c.perform-status.ensures.written) c.perform-status.ensures.failed (λ failed. search none_failed);
    }

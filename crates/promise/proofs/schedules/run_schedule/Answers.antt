use Rattle.std.proofs.Common.{ap, subst}
use Rattle.loader.specs.CatalogueView.{IsCatalogue}
use Rattle.oplog.specs.Limits.{AreSizes, sizes_in}
use Rattle.schedule.specs.declared.parts.Opening.{Opening}
use Rattle.schedule.specs.Taking.{WorldState}
use Rattle.schedule.specs.Worlds.{opening_of}
use Rattle.promise.specs.Answered.{AnswersSuit, NodesSettle, Settles, TakesCalls, TakesNoneAbsent}
use Rattle.promise.proofs.Due.{nodes_settle, opened_answers, settles_each, suits, takes_calls, takes_none}
use Rattle.promise.proofs.Explained.{steps_linearized}
use Rattle.promise.proofs.schedules.run_schedule.Goals as goal

pub returns-in-Ok : goal.returns-in-Ok
returns-in-Ok c =
    let m : Opening = opening_of (sizes_in c.args.config) c.args.catalogue in
    let old : WorldState = c.in_ok-world.world in
    let w = c.in_ok-world.ensures in
    let steps = c.args.steps.now in
    let told = c.in-Ok.ensures.explained in
    let is = ap (λ (s : WorldState). s.opening) w.opened in
    let whole = subst (λ (z : Opening). IsCatalogue z.catalogue) is w.stands.catalogue in
    let sizes = subst (λ (z : Opening). AreSizes z.config) is told.stood.config in
    let reads_off = c.every_schedule.ensures.trace in
    let settles = c.every_schedule_settles.ensures in
    let answers = opened_answers m old steps _ w.opened c.in-Ok.ensures.answers in
    record {
      limits = tt;
      other = tt;
      answered = told.answered;
      linearized = steps_linearized c.typable_programs_run.ensures m old _ steps _ w.opened w.stands told;
      taken = subst (TakesCalls m.config m.catalogue steps) answers (takes_calls reads_off m whole steps);
      opens = w.within;
      absent = subst (TakesNoneAbsent m.config steps) answers (takes_none reads_off m whole steps);
      suits = subst (AnswersSuit steps) answers (suits reads_off m whole steps);
      alone = subst (NodesSettle m.config steps) answers (nodes_settle reads_off m whole sizes steps);
      settled = subst (Settles m.config steps) answers (settles_each reads_off m whole settles sizes steps);
    }

use Rattle.std.proofs.Common.{sym, subst, ap, ◌∙◌, length, arith}
use Rattle.std.proofs.lemmas.List.{length-map}
use Rattle.store.specs.PolledPipelines.{AreListed}
use Rattle.store.proofs.PolledEach.{listed_new}
use Rattle.store.proofs.polled_pipeline.PolledPipeline.new.Goals as goal

pub invariant_of-polled : goal.invariant_of-polled
invariant_of-polled c =
    let p = c.pipeline.inside in
    let l = c.of-list.result in (
      subst (λ n. AreListed p.members.items p.rooms.items n l.room.combining.batch l.room.combining.replies l.stage) (sym c.of-list.ensures.none)
          (listed_new p.members.items p.rooms.items l.room.combining.batch l.room.combining.replies l.stage c.pipeline.invariant.0),
      c.pipeline.invariant.3,
      c.pipeline.invariant.4,
    )

pub returns-clause-emptied : goal.returns-clause-emptied
returns-clause-emptied c =
    let p = c.pipeline.inside in
    let long = sym (length-map p.members.items _) ∙ ap length c.pipeline.view_is in
    let space = c.pipeline.invariant.2 in
    (c.pipeline.invariant.1, omega (arith, long, space))

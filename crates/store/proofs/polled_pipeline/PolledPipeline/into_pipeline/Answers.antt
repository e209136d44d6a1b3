use Rattle.std.proofs.Common.{length, ap, ◌∙◌, sym, subst, arith}
use Rattle.std.proofs.lemmas.List.{length-map}
use Rattle.store.specs.PolledPipelines.{AreWaiting}
use Rattle.store.proofs.PolledEach.{all_idle, posted_is}
use Rattle.store.proofs.polled_pipeline.PolledPipeline.into_pipeline.Goals as goal

pub invariant_of-result : goal.invariant_of-result
invariant_of-result c =
    let p = c.self.inside in
    let l = c.self.invariant.0 in
    let none = posted_is p.members.items p.rooms.items p.list.posted p.list.room.combining.batch p.list.room.combining.replies p.list.stage l 0 (omega arith) (subst (AreWaiting 0) (sym c.self.view_is) c.requires.idle) in
    let long = sym (length-map p.members.items _) ∙ ap length c.self.view_is in
    let space = c.requires.room.1 in (
      all_idle p.members.items p.rooms.items p.list.posted p.list.room.combining.batch p.list.room.combining.replies p.list.stage l none,
      c.requires.room.0,
      omega (arith, long, space),
      c.self.invariant.1,
      c.self.invariant.2,
    )

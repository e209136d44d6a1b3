use Rattle.std.proofs.Common.{length, ap, ◌∙◌, sym, subst, arith}
use Rattle.std.proofs.lemmas.List.{length-map}
use Rattle.store.specs.PolledPipelines.{AreWaiting}
use Rattle.store.proofs.PolledEach.{are_waiting}
use Rattle.store.proofs.polled_pipeline.PolledPipeline.waiting.Goals as goal

pub returns-clause-waiting : goal.returns-clause-waiting
returns-clause-waiting c =
    let p = c.self.inside in
    subst (AreWaiting p.list.posted) c.self.view_is (are_waiting p.members.items p.rooms.items p.list.posted p.list.room.combining.batch p.list.room.combining.replies p.list.stage c.self.invariant.0)

pub returns-clause-few : goal.returns-clause-few
returns-clause-few c =
    let p = c.self.inside in
    let within = c.self.invariant.0.within in
    let seen = ap length (sym c.self.view_is) ∙ length-map p.members.items _ in
    omega (arith, within, seen)

use Rattle.std.proofs.Common.{List, sym, subst, arith}
use Rattle.loader.specs.Installed.{InstalledView}
use Rattle.store_steps.specs.declared.pipelines.Member.{Member}
use Rattle.store.specs.Pipelines.{AreJoined}
use Rattle.store.specs.PolledPipelines.{AreListed, AreWaiting}
use Rattle.store.proofs.Following.{last_out}
use Rattle.store.proofs.PolledEach.{all_idle, listed_new, posted_is}
use Rattle.store.proofs.polled_pipeline.PolledPipeline.take_last.Goals as goal

pub new-requires-clause-idle : goal.new-requires-clause-idle
new-requires-clause-idle c =
    let p = c.self.inside in
    let l = c.self.invariant.0 in
    let none = posted_is p.members.items p.rooms.items p.list.posted p.list.room.combining.batch p.list.room.combining.replies p.list.stage l 0 (omega arith) (subst (AreWaiting 0) (sym c.self.view_is) c.requires.idle) in
    let joined = all_idle p.members.items p.rooms.items p.list.posted p.list.room.combining.batch p.list.room.combining.replies p.list.stage l none in
    (last_out c.pop.new.self.items c.pop-2.new.self.items c.in-Some.field-0 c.in-Some-pop.room (subst (λ (z : List Member × List InstalledView). AreJoined z.0 z.1) (λ i. (c.in-Some.ensures.items i, c.in-Some-pop.ensures.items i)) joined)).idle

pub new-requires-clause-room : goal.new-requires-clause-room
new-requires-clause-room c =
    let p = c.self.inside in
    let l = c.self.invariant.0 in
    let none = posted_is p.members.items p.rooms.items p.list.posted p.list.room.combining.batch p.list.room.combining.replies p.list.stage l 0 (omega arith) (subst (AreWaiting 0) (sym c.self.view_is) c.requires.idle) in
    let joined = all_idle p.members.items p.rooms.items p.list.posted p.list.room.combining.batch p.list.room.combining.replies p.list.stage l none in
    (last_out c.pop.new.self.items c.pop-2.new.self.items c.in-Some.field-0 c.in-Some-pop.room (subst (λ (z : List Member × List InstalledView). AreJoined z.0 z.1) (λ i. (c.in-Some.ensures.items i, c.in-Some-pop.ensures.items i)) joined)).has

pub invariant_of-self-2 : goal.invariant_of-self-2
invariant_of-self-2 c =
    let p = c.self.inside in
    let l = c.self.invariant.0 in
    let none = posted_is p.members.items p.rooms.items p.list.posted p.list.room.combining.batch p.list.room.combining.replies p.list.stage l 0 (omega arith) (subst (AreWaiting 0) (sym c.self.view_is) c.requires.idle) in
    let joined = all_idle p.members.items p.rooms.items p.list.posted p.list.room.combining.batch p.list.room.combining.replies p.list.stage l none in
    let out = last_out c.pop.new.self.items c.pop-2.new.self.items c.in-Some.field-0 c.in-Some-pop.room (subst (λ (z : List Member × List InstalledView). AreJoined z.0 z.1) (λ i. (c.in-Some.ensures.items i, c.in-Some-pop.ensures.items i)) joined) in
    let space = c.self.invariant.1 in
    let room = c.self.invariant.2 in
    let wide = c.pop.ensures.capacity in
    let roomy = c.pop-2.ensures.capacity in (
      subst (λ n. AreListed c.pop.new.self.items c.pop-2.new.self.items n p.list.room.combining.batch p.list.room.combining.replies p.list.stage) (sym none) (listed_new c.pop.new.self.items c.pop-2.new.self.items _ _ _ out.joined),
      omega (arith, space, wide),
      omega (arith, room, roomy),
    )

use Rattle.std.proofs.Common.{◌<◌, length, refl, ◌∙◌, ap, sym, subst, slice_get, slice_set}
use Rattle.std.proofs.lemmas.Option.{slice_get_read}
use Rattle.schedule.specs.Steps.{took}
use Rattle.schedule.specs.Taking.{WorldState, store_of, Takes, IsStanding}
use Rattle.schedule.proofs.Answers.{of_store, stepped, still_standing}
use Rattle.schedule.proofs.OnCalls.{step_explained}
use Rattle.schedule.proofs.worlds.World.step_at.Goals as goal

pub take-requires : goal.take-requires
take-requires c =
    let there = slice_get_read c.self.inside.nodes.items (length c.self.inside.nodes.items) c.args.number c.index_mut.result.now refl (subst (λ (s : WorldState). c.args.number < length s.world.nodes) (sym c.self.view_is) c.requires.there) c.index_mut.ensures.value in
    record { own = of_store (store_of c.self.inside.opening c.self.inside.log c.self.inside.nodes.items) c.self.invariant.0 c.args.number c.index_mut.result.now there; room = c.self.invariant.1 }

pub invariant_of-self : goal.invariant_of-self
invariant_of-self c =
    let there = slice_get_read c.self.inside.nodes.items (length c.self.inside.nodes.items) c.args.number c.index_mut.result.now refl (subst (λ (s : WorldState). c.args.number < length s.world.nodes) (sym c.self.view_is) c.requires.there) c.index_mut.ensures.value in
    let at = ap (λ n. slice_get c.self.inside.nodes.items n) (sym c.requires.node) ∙ there in
    let standing = subst (λ n. IsStanding (store_of c.self.inside.opening c.take.new.log (slice_set c.self.inside.nodes.items n c.take.new.self))) (sym c.requires.node)
    (still_standing (store_of c.self.inside.opening c.self.inside.log c.self.inside.nodes.items) _ c.args.step.now c.take.result c.self.invariant.0
    (stepped (store_of c.self.inside.opening c.self.inside.log c.self.inside.nodes.items) c.args.step.now c.index_mut.result.now c.take.new.log c.take.new.self c.take.result at c.take.ensures.taken)) in
    (standing, c.take.ensures.room)

pub returns : goal.returns
returns c =
    let there = slice_get_read c.self.inside.nodes.items (length c.self.inside.nodes.items) c.args.number c.index_mut.result.now refl (subst (λ (s : WorldState). c.args.number < length s.world.nodes) (sym c.self.view_is) c.requires.there) c.index_mut.ensures.value in
    let at = ap (λ n. slice_get c.self.inside.nodes.items n) (sym c.requires.node) ∙ there in
    let new : WorldState = store_of c.self.inside.opening c.take.new.log (slice_set c.self.inside.nodes.items c.args.number c.take.new.self) in
    let takes : Takes (took c.args.self.now.opening c.args.self.now.world c.args.step.now) c.args.self.now new c.take.result =
    subst (λ (s : WorldState). Takes (took s.opening s.world c.args.step.now) s new c.take.result) c.self.view_is
    (subst (λ n. Takes (took c.self.inside.opening (record { log = c.self.inside.log; nodes = c.self.inside.nodes.items }) c.args.step.now) (store_of c.self.inside.opening c.self.inside.log c.self.inside.nodes.items) (store_of c.self.inside.opening c.take.new.log (slice_set c.self.inside.nodes.items n c.take.new.self)) c.take.result) (sym c.requires.node)
    (stepped (store_of c.self.inside.opening c.self.inside.log c.self.inside.nodes.items) c.args.step.now c.index_mut.result.now c.take.new.log c.take.new.self c.take.result at c.take.ensures.taken)) in
    record { taken = takes; explained = step_explained c.args.self.now new c.args.step.now c.take.result (subst IsStanding c.self.view_is c.self.invariant.0) takes }

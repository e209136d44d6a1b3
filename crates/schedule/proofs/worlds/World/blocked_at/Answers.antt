use Rattle.std.proofs.Common.{◌<◌, length, refl, ◌∙◌, ap, sym, subst, slice_get}
use Rattle.std.proofs.lemmas.Option.{slice_get_read}
use Rattle.schedule.specs.Steps.{took}
use Rattle.schedule.specs.Taking.{WorldState, store_of}
use Rattle.schedule.specs.Blocking.{IsTakenUnless}
use Rattle.schedule.proofs.Answers.{of_store}
use Rattle.schedule.proofs.Unless.{blocked_there}
use Rattle.schedule.proofs.worlds.World.blocked_at.Goals as goal

pub blocked-requires-clause-own : goal.blocked-requires-clause-own
blocked-requires-clause-own c =
    let there = slice_get_read c.self.inside.nodes.items (length c.self.inside.nodes.items) c.args.number c.index.result.now refl (subst (λ (s : WorldState). c.args.number < length s.world.nodes) (sym c.self.view_is) c.requires.there) c.index.ensures in
    of_store (store_of c.self.inside.opening c.self.inside.log c.self.inside.nodes.items) c.self.invariant.0 c.args.number c.index.result.now there

pub returns-clause-taken : goal.returns-clause-taken
returns-clause-taken c =
    let w : WorldState = store_of c.self.inside.opening c.self.inside.log c.self.inside.nodes.items in
    let there = slice_get_read c.self.inside.nodes.items (length c.self.inside.nodes.items) c.args.number c.index.result.now refl (subst (λ (s : WorldState). c.args.number < length s.world.nodes) (sym c.self.view_is) c.requires.there) c.index.ensures in
    let at = ap (λ n. slice_get c.self.inside.nodes.items n) (sym c.requires.node) ∙ there in
    subst (λ (s : WorldState). IsTakenUnless c.blocked.result (took s.opening s.world c.args.step.now)) c.self.view_is
    (blocked_there w.opening w.world c.args.step.now c.index.result.now c.blocked.result at c.blocked.ensures.taken)

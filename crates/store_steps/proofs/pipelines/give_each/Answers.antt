use Rattle.std.proofs.Common.{◌<◌, length, refl, sym, ap, ◌∙◌, subst}
use Rattle.store_steps.specs.Pipelines.{AreMembers}
use Rattle.store_steps.proofs.AskingEach.{still_gives}
use Rattle.store_steps.proofs.pipelines.give_each.Goals as goal

pub loop-init : goal.loop-init
loop-init g c =
    (refl, refl, refl, refl)

pub try_give_each-requires-clause-members : goal.try_give_each-requires-clause-members
try_give_each-requires-clause-members g c =
    subst (λ z. AreMembers c.args.shared.shelf.now.id z) (sym c.loop.invariant.0) c.requires.members

pub try_give_each-requires-clause-count : goal.try_give_each-requires-clause-count
try_give_each-requires-clause-count g c =
    (subst (λ z. 0 < length z) (sym c.loop.invariant.0) c.requires.count.0, c.loop.invariant.3 ∙ (c.requires.count.1 ∙ ap length (sym c.loop.invariant.0)))

pub try_give_each-requires-clause-may : goal.try_give_each-requires-clause-may
try_give_each-requires-clause-may g c =
    still_gives c.args.shared c.args.members.now c.loop.members c.args.room.now.batch c.loop.room.batch c.args.room.now.replies c.loop.room.replies c.loop.invariant.0 c.loop.invariant.1 c.loop.invariant.2 c.requires.may

use Rattle.std.proofs.Common.{length, sym, ap, ◌∙◌, arith}
use Rattle.std.proofs.lemmas.List.{length-map}
use Rattle.store_steps.specs.Pipelines.{spot_of}
use Rattle.store_steps.proofs.AskingEach.{are_members}
use Rattle.store_steps.proofs.BetweenHolds.{asks_each, two_holds}
use Rattle.store_steps.proofs.pipelines.EachRoom.ask.Goals as goal

pub combine_each-requires-clause-may : goal.combine_each-requires-clause-may
combine_each-requires-clause-may g c =
    record { members = c.requires.members; some = c.requires.some; count = c.requires.count.0; idle = c.requires.idle; calls = c.requires.calls }

pub give_each-requires-clause-members : goal.give_each-requires-clause-members
give_each-requires-clause-members g c =
    are_members c.args.shared c.args.members.now c.combine_each.new.members c.combine_each.ensures.same c.requires.members

pub give_each-requires-clause-count : goal.give_each-requires-clause-count
give_each-requires-clause-count g c =
    let long = sym (length-map c.combine_each.new.members spot_of) ∙ (ap length c.combine_each.ensures.same ∙ length-map c.args.members.now spot_of) in
    let some = c.requires.some in let count = c.requires.count.0 in let room = c.requires.count.1 in
    (omega (arith, long, some, count), omega (arith, long, count, room))

pub returns-clause-same : goal.returns-clause-same
returns-clause-same g c =
    (c.give_each.ensures.same.0 ∙ c.combine_each.ensures.same, c.give_each.ensures.same.1)

pub returns-clause-asked : goal.returns-clause-asked
returns-clause-asked g c =
    asks_each c.args.shared c.args.members.now c.combine_each.new.members c.give_each.new.members c.args.calls.now _ _ c.give_each.new.replies c.combine_each.ensures.same c.requires.idle c.combine_each.ensures.combined c.give_each.ensures.gives

pub returns-clause-in_order : goal.returns-clause-in_order
returns-clause-in_order g c =
    c.give_each.ensures.gives.in_order

pub returns-clause-held : goal.returns-clause-held
returns-clause-held g c =
    two_holds c.args.shared c.args.members.now c.combine_each.new.members c.give_each.new.members c.args.calls.now _ _ c.give_each.new.replies c.combine_each.ensures.same c.requires.idle c.combine_each.ensures.combined c.give_each.ensures.gives
    (c.requires.some, c.requires.count.0) (c.give_each.ensures.same.1 ∙ c.requires.count.1)

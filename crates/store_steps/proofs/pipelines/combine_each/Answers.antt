use Rattle.std.proofs.Common.{set, slice_index_or, sym, ap, ◌∙◌, subst, arith}
use Rattle.combiner.specs.Desks.{BatchView}
use Rattle.replica.specs.Views.{RepliesView}
use Rattle.accounts.proofs.Export.{at_one}
use Rattle.store_steps.specs.EachMember.{CombinesEach, MayGive}
use Rattle.store_steps.specs.Pipelines.{spot_of}
use Rattle.store_steps.specs.Standing.{IsFree}
use Rattle.store_steps.specs.declared.pipelines.Member.{Member}
use Rattle.store_steps.proofs.AskingEach.{are_members, claims_of, first_claimed, first_free, first_on, member_of, spots_below, was_at}
use Rattle.store_steps.proofs.BetweenHolds.{combines_each, may_give}
use Rattle.store_steps.proofs.Posting.{known_as, map_set, member_at}
use Rattle.store_steps.proofs.pipelines.combine_each.Goals as goal

pub append_and_replay-requires-clause-own : goal.append_and_replay-requires-clause-own
append_and_replay-requires-clause-own g c =
    let own = slice_index_or c.post_each.new.members 0 c.index-members-0.result in
    let there = member_at c.post_each.new.members 0 c.index-members-0.result (spots_below c.args.members.now c.post_each.new.members c.post_each.ensures.same 0 (omega (arith, c.requires.may.some, c.requires.may.count))) c.index-members-0.is in
    (are_members c.args.shared c.args.members.now c.post_each.new.members c.post_each.ensures.same c.requires.may.members).own 0 own there

pub append_and_replay-requires-clause-claimed : goal.append_and_replay-requires-clause-claimed
append_and_replay-requires-clause-claimed g c =
    let own = slice_index_or c.post_each.new.members 0 c.index-members-0.result in
    let there = member_at c.post_each.new.members 0 c.index-members-0.result (spots_below c.args.members.now c.post_each.new.members c.post_each.ensures.same 0 (omega (arith, c.requires.may.some, c.requires.may.count))) c.index-members-0.is in
    let w = member_of c.args.shared c.args.members.now c.post_each.new.members c.args.calls.now c.post_each.new.room.combining.batch c.post_each.ensures.same (c.requires.may.some, c.requires.may.count) c.requires.may.idle c.post_each.ensures.posted 0 c.requires.may.some in
    let k = claims_of c.args.shared c.args.members.now c.post_each.new.members c.args.calls.now c.post_each.new.room.combining.batch c.post_each.ensures.same (c.requires.may.some, c.requires.may.count) c.requires.may.idle c.post_each.ensures.posted w in
    let o = was_at c.args.members.now c.post_each.new.members c.post_each.ensures.same 0 own there in
    let caller = ap (λ z. z.0) o.2 ∙ ap (λ (z : Member). z.caller) (at_one c.args.members.now 0 o.0 w.member o.1 w.at) in
    (k.after, known_as c.post_each.new.members 0 k.after own there k.is, (subst (λ z. IsFree z k.after) (sym caller) (first_free c.args.shared c.args.members.now c.post_each.new.members c.args.calls.now c.post_each.new.room.combining.batch c.post_each.ensures.same (c.requires.may.some, c.requires.may.count) c.requires.may.idle c.post_each.ensures.posted w), first_claimed c.args.shared c.args.members.now c.post_each.new.members c.args.calls.now c.post_each.new.room.combining.batch c.post_each.ensures.same (c.requires.may.some, c.requires.may.count) c.requires.may.idle c.post_each.ensures.posted w, first_on c.args.shared c.args.members.now c.post_each.new.members c.args.calls.now c.post_each.new.room.combining.batch c.post_each.ensures.same (c.requires.may.some, c.requires.may.count) c.requires.may.idle c.post_each.ensures.posted w))

pub returns-clause-same : goal.returns-clause-same
returns-clause-same g c =
    let own = slice_index_or c.post_each.new.members 0 c.index-members-0.result in
    let there = member_at c.post_each.new.members 0 c.index-members-0.result (spots_below c.args.members.now c.post_each.new.members c.post_each.ensures.same 0 (omega (arith, c.requires.may.some, c.requires.may.count))) c.index-members-0.is in
    map_set spot_of c.post_each.new.members 0 own (record own { seat = c.append_and_replay.new.seat }) there (λ i. (own.caller, c.append_and_replay.ensures.same i)) ∙ c.post_each.ensures.same

pub returns-clause-combined : goal.returns-clause-combined
returns-clause-combined g c =
    let own = slice_index_or c.post_each.new.members 0 c.index-members-0.result in
    let there = member_at c.post_each.new.members 0 c.index-members-0.result (spots_below c.args.members.now c.post_each.new.members c.post_each.ensures.same 0 (omega (arith, c.requires.may.some, c.requires.may.count))) c.index-members-0.is in
    subst (λ (z : BatchView × RepliesView). CombinesEach c.args.members.now (set c.post_each.new.members 0 (record own { seat = c.append_and_replay.new.seat })) c.args.calls.now z.0 z.1) (λ i. (sym c.count_batch.ensures.room.0 i, sym c.count_batch.ensures.room.1 i)) (combines_each c.args.shared c.args.members.now c.post_each.new.members c.args.calls.now c.post_each.new.room.combining.batch c.post_each.ensures.same (c.requires.may.some, c.requires.may.count) c.requires.may.idle c.post_each.ensures.posted own there c.append_and_replay.new.seat c.append_and_replay.new.replies c.append_and_replay.ensures.combined)

pub returns-clause-ready : goal.returns-clause-ready
returns-clause-ready g c =
    let own = slice_index_or c.post_each.new.members 0 c.index-members-0.result in
    let there = member_at c.post_each.new.members 0 c.index-members-0.result (spots_below c.args.members.now c.post_each.new.members c.post_each.ensures.same 0 (omega (arith, c.requires.may.some, c.requires.may.count))) c.index-members-0.is in
    subst (λ (z : BatchView × RepliesView). MayGive c.args.shared (set c.post_each.new.members 0 (record own { seat = c.append_and_replay.new.seat })) z.0 z.1) (λ i. (sym c.count_batch.ensures.room.0 i, sym c.count_batch.ensures.room.1 i)) (may_give c.args.shared c.args.members.now c.post_each.new.members c.args.calls.now c.post_each.new.room.combining.batch c.post_each.ensures.same (c.requires.may.some, c.requires.may.count) c.requires.may.idle c.post_each.ensures.posted own there c.append_and_replay.new.seat c.append_and_replay.new.replies c.append_and_replay.ensures.combined c.requires.ascend)

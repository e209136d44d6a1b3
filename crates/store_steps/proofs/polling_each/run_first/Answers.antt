use Rattle.std.proofs.Common.{slice_index_or, sym, subst}
use Rattle.combiner.specs.Desks.{BatchView}
use Rattle.replica.specs.Views.{RepliesView}
use Rattle.store_steps.specs.PollingEach.{WaitsEach}
use Rattle.store_steps.specs.declared.polling_each.EachStage.TheVariants.{Ready}
use Rattle.store_steps.proofs.Gone.{on_known}
use Rattle.store_steps.proofs.Posting.{member_at}
use Rattle.store_steps.proofs.PollingEach.{first_spots, held_waits, ran_waits, set_first}
use Rattle.store_steps.proofs.polling_each.run_first.Goals as goal

pub try_combine-requires-clause-own : goal.try_combine-requires-clause-own
try_combine-requires-clause-own c =
    let own = slice_index_or c.args.members.now 0 c.index-members-0.result in
    let there = member_at c.args.members.now 0 c.index-members-0.result c.requires.some c.index-members-0.is in
    c.requires.members.own 0 own there

pub try_combine-requires-clause-claimed : goal.try_combine-requires-clause-claimed
try_combine-requires-clause-claimed c =
    let own = slice_index_or c.args.members.now 0 c.index-members-0.result in
    let there = member_at c.args.members.now 0 c.index-members-0.result c.requires.some c.index-members-0.is in
    let v = c.requires.out.polled 0 own there in
    (v.0, v.2.is, (v.2.free, v.3, on_known c.args.shared own.seat v.0 v.2.is (c.requires.on 0 own there)))

pub returns-in_default-clause-same : goal.returns-in_default-clause-same
returns-in_default-clause-same c =
    let own = slice_index_or c.args.members.now 0 c.index-members-0.result in
    let there = member_at c.args.members.now 0 c.index-members-0.result c.requires.some c.index-members-0.is in
    let room = c.args.room.now.combining in
    first_spots c.args.members.now room.batch room.replies c.requires.out own there c.try_combine.new.seat c.try_combine.ensures.same c.try_combine.new.replies

pub returns-in_default-clause-waits : goal.returns-in_default-clause-waits
returns-in_default-clause-waits c =
    let own = slice_index_or c.args.members.now 0 c.index-members-0.result in
    let there = member_at c.args.members.now 0 c.index-members-0.result c.requires.some c.index-members-0.is in
    let room = c.args.room.now.combining in
    subst (λ z. WaitsEach c.args.members.now (set_first c.args.members.now room.batch room.replies c.requires.out own there c.try_combine.new.seat c.try_combine.ensures.same c.try_combine.new.replies) room.batch c.try_combine.new.replies z) (sym c.requires.claimed)
    (held_waits c.args.members.now room.batch room.replies c.requires.out own there c.try_combine.new.seat c.try_combine.ensures.same c.try_combine.new.replies c.in_default.ensures.stays)

pub returns-clause-same : goal.returns-clause-same
returns-clause-same c =
    let own = slice_index_or c.args.members.now 0 c.index-members-0.result in
    let there = member_at c.args.members.now 0 c.index-members-0.result c.requires.some c.index-members-0.is in
    let room = c.args.room.now.combining in
    first_spots c.args.members.now room.batch room.replies c.requires.out own there c.try_combine.new.seat c.try_combine.ensures.same c.try_combine.new.replies

pub returns-clause-waits : goal.returns-clause-waits
returns-clause-waits c =
    let own = slice_index_or c.args.members.now 0 c.index-members-0.result in
    let there = member_at c.args.members.now 0 c.index-members-0.result c.requires.some c.index-members-0.is in
    let room = c.args.room.now.combining in
    subst (λ (z : BatchView × RepliesView). WaitsEach c.args.members.now (set_first c.args.members.now room.batch room.replies c.requires.out own there c.try_combine.new.seat c.try_combine.ensures.same c.try_combine.new.replies) z.0 z.1 Ready) (λ i. (sym c.count_batch.ensures.room.0 i, sym c.count_batch.ensures.room.1 i))
    (ran_waits c.args.members.now room.batch room.replies c.requires.out own there c.try_combine.new.seat c.try_combine.ensures.same c.try_combine.new.replies c.in-Ok.ensures.combined)

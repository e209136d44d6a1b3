use Rattle.std.proofs.Common.{refl}
use Rattle.store_steps.proofs.PollingEach.{begins_each, begins_out, idle_looked}
use Rattle.store_steps.proofs.polling_each.try_begin_each.Goals as goal

pub try_post_each-requires : goal.try_post_each-requires
try_post_each-requires c =
    record { may = record { members = c.requires.members; some = c.requires.count.0; count = c.requires.count.1; idle = c.requires.may; calls = c.requires.calls } }

pub returns-in_default-clause-stays : goal.returns-in_default-clause-stays
returns-in_default-clause-stays c =
    (c.in_default.ensures.stays, idle_looked c.args.members.now c.try_post_each.new.members c.try_post_each.ensures.same c.in_default.ensures.stays c.requires.idle, refl)

pub returns-clause-out : goal.returns-clause-out
returns-clause-out c =
    begins_out c.args.shared c.args.members.now c.try_post_each.new.members c.args.calls.now c.try_post_each.new.batch c.args.room.now.combining.replies c.try_post_each.ensures.same c.requires.count.1 c.requires.may c.requires.idle c.in-Ok.ensures.posted c.requires.ascend

pub returns-clause-begun : goal.returns-clause-begun
returns-clause-begun c =
    begins_each c.args.shared c.args.members.now c.try_post_each.new.members c.args.calls.now c.try_post_each.new.batch c.args.room.now.combining.replies c.try_post_each.ensures.same c.requires.count.1 c.requires.may c.requires.idle c.in-Ok.ensures.posted

pub returns-clause-held : goal.returns-clause-held
returns-clause-held c = c.in-Ok.ensures.posted.held

use Rattle.std.proofs.Common.{sym, subst}
use Rattle.store_steps.specs.PollingEach.{AreOut}
use Rattle.store_steps.specs.declared.polling_each.EachStage.TheVariants.{Claimed}
use Rattle.store_steps.proofs.PollingEach.{out_on, stays_each}
use Rattle.store_steps.proofs.polling_each.combine_first.Goals as goal

pub run_first-requires-clause-out : goal.run_first-requires-clause-out
run_first-requires-clause-out c =
    subst (λ z. AreOut c.args.members.now c.args.room.now.combining.batch c.args.room.now.combining.replies z) c.in-Claimed.is c.requires.out

pub returns-in-Claimed-clause-out : goal.returns-in-Claimed-clause-out
returns-in-Claimed-clause-out c =
    let room = c.run_first.new.room.combining in
    out_on c.args.members.now c.run_first.new.members room.batch c.args.room.now.combining.replies room.replies Claimed c.run_first.new.stage c.run_first.ensures.same
    (subst (λ z. AreOut c.args.members.now z c.args.room.now.combining.replies Claimed) (sym c.run_first.ensures.kept) (subst (λ z. AreOut c.args.members.now c.args.room.now.combining.batch c.args.room.now.combining.replies z) c.in-Claimed.is c.requires.out))
    c.run_first.ensures.waits

pub returns-in-Ready-clause-waits : goal.returns-in-Ready-clause-waits
returns-in-Ready-clause-waits c =
    stays_each c.args.members.now c.args.room.now.combining.batch c.args.room.now.combining.replies c.args.stage.now c.requires.out

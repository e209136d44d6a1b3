use Rattle.store_steps.proofs.AtDesk.{free_posts, post_steps}
use Rattle.store_steps.proofs.desks.post.Goals as goal

pub unreached-assert_unchecked-requires : goal.unreached-assert_unchecked-requires
unreached-assert_unchecked-requires c = let i = c.requires.own in absurd (free_posts c.args.slot i.0 c.args.desk.now c.args.op.now i.1 i.2.0.0 c.in-Err.ensures.posted.1)

pub returns-clause-step : goal.returns-clause-step
returns-clause-step c k i may = post_steps c.args.slot k c.args.desk.now c.post.new.self c.args.op.now c.in-Ok.ensures.posted i may.0 may.1

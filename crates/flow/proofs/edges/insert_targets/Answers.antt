use Rattle.std.proofs.Common.{arith}
use Rattle.flow.proofs.Steps.{fall_leads, jump_leads}
use Rattle.flow.proofs.edges.insert_targets.Goals as goal

pub insert_next-requires : goal.insert_next-requires
insert_next-requires c = λ falls.
    let within = c.requires.within _ (fall_leads c.args.form c.args.slot falls) in
    omega (arith, within, c.requires.next)

pub insert_target-requires-clause-within : goal.insert_target-requires-clause-within
insert_target-requires-clause-within c = λ t jumps. c.requires.within t (jump_leads c.args.form c.args.slot t jumps)

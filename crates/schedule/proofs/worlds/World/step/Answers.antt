use Rattle.std.proofs.Common.{◌≤◌, ◌∙◌, length, arith, subst}
use Rattle.schedule.specs.declared.steps.StepAnswer.TheVariants as answers
use Rattle.schedule.specs.Steps.{node_of}
use Rattle.schedule.specs.Taking.{WorldState, IsStanding}
use Rattle.schedule.proofs.Answers.{not_there}
use Rattle.schedule.proofs.OnCalls.{step_explained}
use Rattle.schedule.proofs.worlds.World.step.Goals as goal

pub returns-else-number-len-clause-explained : goal.returns-else-number-len-clause-explained
returns-else-number-len-clause-explained c =
    let long = c.len.ensures ∙ c.self.inside.nodes.ok.0 in
    let node = c.node-number.ensures.node in
    let outside = c.if-number-len.false in
    let past : length c.self.inside.nodes.items ≤ node_of c.args.step.now = omega (arith, long, node, outside) in
    step_explained c.args.self.now c.args.self.now c.args.step.now answers.NotNow (subst IsStanding c.self.view_is c.self.invariant.0)
    (not_there c.args.self.now c.args.step.now (subst (λ (s : WorldState). length s.world.nodes ≤ node_of c.args.step.now) c.self.view_is past))

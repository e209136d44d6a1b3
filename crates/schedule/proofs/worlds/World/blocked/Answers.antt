use Rattle.std.proofs.Common.{◌≤◌, ◌≡◌, length, arith, subst, Some}
use Rattle.schedule.specs.declared.blocking.Blocked.TheVariants.{NoNode}
use Rattle.schedule.specs.Steps.{node_of, took}
use Rattle.schedule.specs.Taking.{WorldState, store_of}
use Rattle.schedule.specs.Blocking.{blocked, IsTakenUnless}
use Rattle.schedule.proofs.Unless.{blocked_away}
use Rattle.schedule.proofs.worlds.World.blocked.Goals as goal

pub returns-else-number-nodes-clause-first : goal.returns-else-number-nodes-clause-first
returns-else-number-nodes-clause-first c =
    let long = c.len-nodes.ensures in
    let node = c.node-number.ensures.node in
    let outside = c.if-number-nodes.false in
    let count = c.self.inside.nodes.ok.0 in
    let past : length c.self.inside.nodes.items ≤ node_of c.args.step.now = omega (arith, long, node, outside, count) in
    let same : c.len-nodes.result ≡ length c.self.inside.nodes.items = omega (arith, long, count) in
    subst (λ (s : WorldState). Some (NoNode c.len-nodes.result) ≡ blocked s.opening s.world c.args.step.now) c.self.view_is
    (rw same (blocked_away c.self.inside.opening (store_of c.self.inside.opening c.self.inside.log c.self.inside.nodes.items).world c.args.step.now past).0)

pub returns-else-number-nodes-clause-taken : goal.returns-else-number-nodes-clause-taken
returns-else-number-nodes-clause-taken c =
    let long = c.len-nodes.ensures in
    let node = c.node-number.ensures.node in
    let outside = c.if-number-nodes.false in
    let count = c.self.inside.nodes.ok.0 in
    let past : length c.self.inside.nodes.items ≤ node_of c.args.step.now = omega (arith, long, node, outside, count) in
    let same : c.len-nodes.result ≡ length c.self.inside.nodes.items = omega (arith, long, count) in
    subst (λ (s : WorldState). IsTakenUnless (Some (NoNode c.len-nodes.result)) (took s.opening s.world c.args.step.now)) c.self.view_is
    (rw same (blocked_away c.self.inside.opening (store_of c.self.inside.opening c.self.inside.log c.self.inside.nodes.items).world c.args.step.now past).1)

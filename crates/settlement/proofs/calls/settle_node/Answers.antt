use Rattle.std.proofs.Common.{◌≡◌, rules}
use Rattle.std.proofs.lemmas.Result.{IfOk-weaker}
use Rattle.settlement.specs.Settling.{settling}
use Rattle.settlement.proofs.OnCalls.{node_world, node_settled, node_few, node_own, taken_now, taken_explained}
use Rattle.settlement.proofs.calls.settle_node.Goals as goal

pub returns-clause-world : goal.returns-clause-world
returns-clause-world c =
    let list : c.in_ok-steps.steps.items ≡ settling c.args.node c.args.world.now.opening.config.slots = search rules in
    IfOk-weaker c.take_steps.result _ _ (λ taken has. node_world c.args.world.now c.take_steps.new.world c.args.node c.in_ok-steps.steps.items taken.items c.config-config.ensures.stands list has) c.take_steps.ensures.taken

pub returns-clause-settled : goal.returns-clause-settled
returns-clause-settled c =
    let list : c.in_ok-steps.steps.items ≡ settling c.args.node c.args.world.now.opening.config.slots = search rules in
    IfOk-weaker c.take_steps.result _ _ (λ taken has. node_settled c.args.world.now c.take_steps.new.world c.args.node c.in_ok-steps.steps.items taken.items c.config-config.ensures.stands list has c.requires.there) c.take_steps.ensures.taken

pub returns-clause-few : goal.returns-clause-few
returns-clause-few c =
    let list : c.in_ok-steps.steps.items ≡ settling c.args.node c.args.world.now.opening.config.slots = search rules in
    IfOk-weaker c.take_steps.result _ _ (λ taken has. node_few c.args.world.now c.take_steps.new.world c.args.node c.in_ok-steps.steps.items taken.items c.config-config.ensures.stands list has c.requires.there) c.take_steps.ensures.taken

pub returns-clause-taken : goal.returns-clause-taken
returns-clause-taken c = IfOk-weaker c.take_steps.result _ _ (λ taken has. taken_now c.args.world.now c.take_steps.new.world c.in_ok-steps.steps.items taken.items has) c.take_steps.ensures.taken

pub returns-clause-own : goal.returns-clause-own
returns-clause-own c =
    let list : c.in_ok-steps.steps.items ≡ settling c.args.node c.args.world.now.opening.config.slots = search rules in
    IfOk-weaker c.take_steps.result _ _ (λ taken has. node_own c.args.world.now c.take_steps.new.world c.args.node c.in_ok-steps.steps.items taken.items c.config-config.ensures.stands list has) c.take_steps.ensures.taken

pub returns-clause-explained : goal.returns-clause-explained
returns-clause-explained c = IfOk-weaker c.take_steps.result _ _ (λ taken has. taken_explained c.args.world.now c.take_steps.new.world c.in_ok-steps.steps.items taken.items c.config-config.ensures.stands has) c.take_steps.ensures.taken

use Rattle.std.proofs.Common.{◌≡◌, rules}
use Rattle.std.proofs.lemmas.Result.{IfOk-weaker}
use Rattle.settlement.specs.Settling.{settling_store}
use Rattle.settlement.proofs.OnCalls.{store_settled, store_answered, store_few, taken_now, taken_explained}
use Rattle.settlement.proofs.calls.settle.Goals as goal

pub returns-clause-settled : goal.returns-clause-settled
returns-clause-settled c =
    let list : c.in_ok-steps.steps.items ≡ settling_store c.args.world.now.opening.config = search rules in
    IfOk-weaker c.take_steps.result _ _ (λ taken has. store_settled c.args.world.now c.take_steps.new.world c.in_ok-steps.steps.items taken.items c.config-config.ensures.stands list has) c.take_steps.ensures.taken

pub returns-clause-answered : goal.returns-clause-answered
returns-clause-answered c =
    let list : c.in_ok-steps.steps.items ≡ settling_store c.args.world.now.opening.config = search rules in
    IfOk-weaker c.take_steps.result _ _ (λ taken has. store_answered c.args.world.now c.take_steps.new.world c.in_ok-steps.steps.items taken.items c.config-config.ensures.stands list has) c.take_steps.ensures.taken

pub returns-clause-few : goal.returns-clause-few
returns-clause-few c =
    let list : c.in_ok-steps.steps.items ≡ settling_store c.args.world.now.opening.config = search rules in
    IfOk-weaker c.take_steps.result _ _ (λ taken has. store_few c.args.world.now c.take_steps.new.world c.in_ok-steps.steps.items taken.items c.config-config.ensures.stands list has) c.take_steps.ensures.taken

pub returns-clause-taken : goal.returns-clause-taken
returns-clause-taken c = IfOk-weaker c.take_steps.result _ _ (λ taken has. taken_now c.args.world.now c.take_steps.new.world c.in_ok-steps.steps.items taken.items has) c.take_steps.ensures.taken

pub returns-clause-explained : goal.returns-clause-explained
returns-clause-explained c = IfOk-weaker c.take_steps.result _ _ (λ taken has. taken_explained c.args.world.now c.take_steps.new.world c.in_ok-steps.steps.items taken.items c.config-config.ensures.stands has) c.take_steps.ensures.taken

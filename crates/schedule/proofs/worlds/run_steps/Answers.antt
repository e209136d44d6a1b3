use Rattle.std.proofs.Common.{◌≡◌, ◌∙◌, refl, subst, rules, length}
use Rattle.std.proofs.lemmas.Grind.{common_steps}
use Rattle.std.proofs.Common.{arith}
use Rattle.std.proofs.lemmas.List.{take_all}
use Rattle.std.proofs.lemmas.Option.{slice_get_read}
use Rattle.schedule.specs.Steps.{world_of}
use Rattle.schedule.specs.Taking.{answers_to}
use Rattle.schedule.proofs.Answers.{steps_next}
use Rattle.schedule.proofs.OnCalls.{steps_explained}
use Rattle.schedule.proofs.worlds.run_steps.Goals as goal

pub loop-step-preserved : goal.loop-step-preserved
loop-step-preserved c =
    let there = slice_get_read c.args.steps.now (length c.args.steps.now) c.loop-step.step-index c.step-item.result refl c.loop-step-test.true c.step-item.is in
    let next = steps_next c.args.world.now c.loop-step.world c.step-answer.new.self c.args.steps.now c.loop-step.step-index c.step-item.result c.step-answer.result c.loop-step.answers.items there
    c.loop-step.invariant.world c.loop-step.invariant.answers c.step-answer.ensures.taken in
    record {
      capacity = search (rules, c.push_reserved.ensures.capacity, c.loop-step.invariant.capacity);
      count = grind (arith, common_steps);
      world = next.0;
      answers = c.push_reserved.ensures.items ∙ next.1;
    }

pub returns-clause-explained : goal.returns-clause-explained
returns-clause-explained c =
    let all = take_all c.loop-step.step-index c.args.steps.now c.loop-step-test.false in
    steps_explained c.args.world.now c.loop-step.world c.args.steps.now c.loop-step.answers.items c.stands.ensures.stands
    (subst (λ steps. c.loop-step.world ≡ record c.args.world.now { world = world_of c.args.world.now.opening c.args.world.now.world steps }) all c.loop-step.invariant.world)
    (subst (λ steps. c.loop-step.answers.items ≡ answers_to c.args.world.now.opening c.args.world.now.world steps) all c.loop-step.invariant.answers)

use Rattle.std.proofs.Common.{◌≡◌, ◌≢◌, ◌∷◌, arith, rules, sym, subst}
use Rattle.std.proofs.lemmas.Grind.{common_steps}
use Rattle.std.specs.Vec.Iter.{into_iter_items}
use Rattle.schedule.specs.declared.steps.StepAnswer.TheVariants.{NotNow}
use Rattle.settlement.proofs.OnCalls.{IsOnTheWay, goes_on}
use Rattle.settlement.proofs.calls.take_steps.Goals as goal

pub loop-step-preserved-then-not-matches : goal.loop-step-preserved-then-not-matches
loop-step-preserved-then-not-matches c =
    let next : into_iter_items c.loop-step.step-iterator ≡ c.in-Some.step ∷ into_iter_items c.next.new.self = c.in-Some.ensures.steps.0 in
    let now_taken : c.step-answer.result ≢ NotNow = first_of (search rules, grind (arith, common_steps)) in
    let on = subst (λ left. IsOnTheWay c.args.world.now c.args.steps.items c.loop-step.world c.loop-step.taken.items left) next c.loop-step.invariant.on_the_way in
    let further = goes_on c.args.world.now c.loop-step.world c.step-answer.new.self c.args.steps.items (into_iter_items c.next.new.self) c.in-Some.step c.step-answer.result c.loop-step.taken.items on c.step-answer.ensures.taken now_taken in
    record {
      room = search rules;
      on_the_way = subst (λ taken. IsOnTheWay c.args.world.now c.args.steps.items c.step-answer.new.self taken (into_iter_items c.next.new.self)) (sym c.push_reserved.ensures.items) further;
    }

-- What a call shows of the steps that it takes.
use Rattle.std.proofs.Common.{◌≡◌, suc, List, [], ◌∷◌, ◌++◌, length, refl, sym, ap, subst}
use Rattle.oplog.specs.History.{History}
use Rattle.schedule.specs.declared.steps.Step.{Step}
use Rattle.schedule.specs.declared.steps.StepAnswer.{StepAnswer}
use Rattle.schedule.specs.declared.parts.Opening.{Opening}
use Rattle.schedule.specs.Trace.{Trace, Positions}
use Rattle.schedule.specs.Worlds.{WorldView}
use Rattle.schedule.specs.Steps.{took, world_after, world_of}
use Rattle.schedule.specs.Stands.{Stands}
use Rattle.schedule.specs.Taking.{WorldState, Takes, IsStanding, answers_to}
use Rattle.schedule.specs.ReadOff.{read_off}
use Rattle.schedule.specs.Headline.{GoesOn, StepsAreExplained}
use Rattle.schedule.proofs.Runs.{run_stands, opening_stands, standing_is_explained}
use Rattle.schedule.proofs.ReadOff.{steps_told}
use Rattle.schedule.proofs.Answers.{takes_after}

answers_count : (m : Opening) (w : WorldView) (steps : List Step) → length (answers_to m w steps) ≡ length steps
answers_count m w [] = refl
answers_count m w (step ∷ steps) = ap suc (answers_count m (world_after w (took m w step)) steps)

-- from a history that stands there goes on one that does, after these steps
goes_on : (m : Opening) (w : WorldView) (h : History) (positions : Positions) (t : Trace) (steps : List Step) → Stands m w h positions t
    → GoesOn h positions m (world_of m w steps) (t ++ read_off m.config steps (answers_to m w steps))
goes_on m w h positions t steps x =
    let r = run_stands m steps w h positions t x in
    let after : WorldView = world_of m w steps in
    let trace : Trace = t ++ read_off m.config steps (answers_to m w steps) in
    let stands = subst (λ s. Stands m after (h ++ r.0) (positions ++ r.1) s) (steps_told m steps w h positions t t x) r.2 in
    (r.0, r.1, stands, standing_is_explained m after (h ++ r.0) (positions ++ r.1) trace stands)

-- the steps of a store that stands, with their answers
all_explained : (s : WorldState) (steps : List Step) → IsStanding s
    → StepsAreExplained s steps (answers_to s.opening s.world steps) (record s { world = world_of s.opening s.world steps })
all_explained s steps x = record {
  answered = answers_count s.opening s.world steps;
  opening = refl;
  whole = λ new.
      let nothing = subst (λ w. Stands s.opening w [] [] []) (sym (ap (λ v. v.world) new)) (opening_stands s.opening x.stands.catalogue) in
      let k = goes_on s.opening s.world [] [] [] steps nothing in
      (k.0, k.1, k.3);
  stood = x;
  goes_on = λ h positions t stands. goes_on s.opening s.world h positions t steps stands;
}

pub steps_explained : (old new : WorldState) (steps : List Step) (answers : List StepAnswer) → IsStanding old
    → new ≡ record old { world = world_of old.opening old.world steps } → answers ≡ answers_to old.opening old.world steps → StepsAreExplained old steps answers new
steps_explained old new steps answers x is are =
    subst (λ s. StepsAreExplained old steps answers s) (sym is)
    (subst (λ given. StepsAreExplained old steps given (record old { world = world_of old.opening old.world steps })) (sym are) (all_explained old steps x))

-- one step
pub step_explained : (old new : WorldState) (step : Step) (answer : StepAnswer) → IsStanding old → Takes (took old.opening old.world step) old new answer
    → StepsAreExplained old (step ∷ []) (answer ∷ []) new
step_explained old new step answer x takes =
    let a = takes_after (took old.opening old.world step) old new answer takes in
    steps_explained old new (step ∷ []) (answer ∷ []) x a.0 (ap (λ y. y ∷ []) a.1)

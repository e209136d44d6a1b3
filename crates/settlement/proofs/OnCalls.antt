-- What calls show of the steps that they take.
use Rattle.std.proofs.Common.{◌≡◌, ◌≢◌, ℕ, ◌+◌, ◌*◌, ◌≤◌, ◌<◌, List, [], ◌∷◌, ◌++◌, length, map, Option, Some, None, sym, ap, ◌∙◌, arith, subst, append_assoc}
use Rattle.std.specs.List.{All}
use Rattle.schedule.specs.declared.parts.Opening.{Opening}
use Rattle.schedule.specs.declared.steps.Step.{Step}
use Rattle.schedule.specs.declared.steps.StepAnswer.{StepAnswer}
use Rattle.schedule.specs.declared.steps.StepAnswer.TheVariants.{NotNow}
use Rattle.schedule.specs.Steps.{Took, took, world_after, world_of, node_of}
use Rattle.schedule.specs.Taking.{WorldState, IsStanding, Takes}
use Rattle.schedule.specs.ReadOff.{read_off}
use Rattle.schedule.specs.Headline.{StepsAreExplained}
use Rattle.schedule.proofs.Export.{steps_explained}
use Rattle.settlement.specs.declared.calls.Taken.{Taken}
use Rattle.settlement.specs.Settling.{before_taken, taken_of, HasTaken, settling, settling_store, IsSettledAt, AnswersAll}
use Rattle.settlement.proofs.NodeLists.{settling_own}
use Rattle.settlement.proofs.InTurn.{kept_world, kept_answers, all_taken, all_own}
use Rattle.settlement.proofs.Settled.{settle_alone}
use Rattle.settlement.proofs.AllNodes.{store_settles, all_few}
use Rattle.settlement.proofs.Answered.{settled_answers}

-- ---- on the way

-- of these steps so many are taken so far, and these are left
pub record IsOnTheWay (old : WorldState) (steps : List Step) (now : WorldState) (taken : List Taken) (left : List Step) : Type 0 where
  pub opening : now.opening ≡ old.opening
  pub world : world_of old.opening now.world left ≡ world_of old.opening old.world steps
  pub taken_so_far : taken ++ taken_of old.opening now.world left ≡ taken_of old.opening old.world steps

module _ (old now new : WorldState) (steps left : List Step) (step : Step) (answer : StepAnswer) (taken : List Taken) (on : IsOnTheWay old steps now taken (step ∷ left)) (takes : Takes (took now.opening now.world step) now new answer) where
  as_old : Takes (took old.opening now.world step) now new answer
  as_old = subst (λ (m : Opening). Takes (took m now.world step) now new answer) on.opening takes

  -- and one that is taken
  pub goes_on : answer ≢ NotNow → IsOnTheWay old steps new (taken ++ (record { step = step; answer = answer }) ∷ []) left
  goes_on now_taken = go (took old.opening now.world step) as_old on.world on.taken_so_far
    where
      go : (o : Option Took) → Takes o now new answer → world_of old.opening (world_after now.world o) left ≡ world_of old.opening old.world steps
          → taken ++ before_taken step o (taken_of old.opening (world_after now.world o) left) ≡ taken_of old.opening old.world steps
          → IsOnTheWay old steps new (taken ++ (record { step = step; answer = answer }) ∷ []) left
      go None (is, same) w t = absurd (now_taken is)
      go (Some r) (is, same) w t =
          subst (λ (s : WorldState). IsOnTheWay old steps s (taken ++ (record { step = step; answer = answer }) ∷ []) left) (sym same) (record {
            opening = on.opening;
            world = w;
            taken_so_far = append_assoc taken ((record { step = step; answer = answer }) ∷ []) (taken_of old.opening r.world left)
                ∙ (ap (λ (a : StepAnswer). taken ++ (record { step = step; answer = a }) ∷ taken_of old.opening r.world left) is ∙ t);
          })

-- ---- at the end

pub taken_explained : (old new : WorldState) (steps : List Step) (taken : List Taken) → IsStanding old → HasTaken old steps taken new
    → StepsAreExplained old (map (λ t. t.step) taken) (map (λ t. t.answer) taken) new
taken_explained old new steps taken x has =
    subst (λ (ts : List Taken). StepsAreExplained old (map (λ (t : Taken). t.step) ts) (map (λ (t : Taken). t.answer) ts) new) (sym has.taken_steps)
    (steps_explained old new (map (λ (t : Taken). t.step) (taken_of old.opening old.world steps)) (map (λ (t : Taken). t.answer) (taken_of old.opening old.world steps)) x
    (has.world ∙ ap (λ w. (let s : WorldState = record { opening = old.opening; world = w } in s)) (sym (kept_world old.opening steps old.world)))
    (kept_answers old.opening steps old.world))

pub taken_now : (old new : WorldState) (steps : List Step) (taken : List Taken) → HasTaken old steps taken new → All (λ (t : Taken). t.answer ≢ NotNow) taken
taken_now old new steps taken has = subst (λ (ts : List Taken). All (λ (t : Taken). t.answer ≢ NotNow) ts) (sym has.taken_steps) (all_taken old.opening steps old.world)

-- ---- a node

module _ (old new : WorldState) (n : ℕ) (steps : List Step) (taken : List Taken) (x : IsStanding old) (list : steps ≡ settling n old.opening.config.slots) (has : HasTaken old steps taken new) where
  pub node_world : HasTaken old (settling n old.opening.config.slots) taken new
  node_world = subst (λ (ss : List Step). HasTaken old ss taken new) list has

  pub node_settled : n < length old.world.nodes → IsSettledAt new.world n
  node_settled there =
      let many = x.stands.count in
      let a = settle_alone old.opening old.world x.history x.positions x.trace n x.config x.stands (omega arith) in
      subst (λ (s : WorldState). IsSettledAt s.world n) (sym node_world.world) a.settled

  pub node_few : n < length old.world.nodes → length taken ≤ old.opening.config.slots + 14
  node_few there =
      let many = x.stands.count in
      let a = settle_alone old.opening old.world x.history x.positions x.trace n x.config x.stands (omega arith) in
      subst (λ (ts : List Taken). length ts ≤ old.opening.config.slots + 14) (sym node_world.taken_steps) a.few

  pub node_own : All (λ (t : Taken). node_of t.step ≡ n) taken
  node_own = subst (λ (ts : List Taken). All (λ (t : Taken). node_of t.step ≡ n) ts) (sym node_world.taken_steps)
      (all_own old.opening n (settling n old.opening.config.slots) old.world (settling_own n old.opening.config.slots))

-- ---- all nodes

module _ (old new : WorldState) (steps : List Step) (taken : List Taken) (x : IsStanding old) (list : steps ≡ settling_store old.opening.config) (has : HasTaken old steps taken new) where
  all_world : HasTaken old (settling_store old.opening.config) taken new
  all_world = subst (λ (ss : List Step). HasTaken old ss taken new) list has

  settled : (n : ℕ) → n < old.opening.config.nodes → IsSettledAt new.world n
  settled n inside = subst (λ (s : WorldState). IsSettledAt s.world n) (sym all_world.world) (store_settles old.opening old.world x n inside)

  explained : StepsAreExplained old (map (λ (t : Taken). t.step) taken) (map (λ (t : Taken). t.answer) taken) new
  explained = taken_explained old new steps taken x has

  same_nodes : new.opening.config.nodes ≡ old.opening.config.nodes
  same_nodes = ap (λ (m : Opening). m.config.nodes) explained.opening

  pub store_settled : (n : ℕ) → n < length new.world.nodes → IsSettledAt new.world n
  store_settled n there =
      let k = explained.goes_on x.history x.positions x.trace x.stands in
      let many : length new.world.nodes ≡ new.opening.config.nodes = (k.2).count in
      let same = same_nodes in
      settled n (omega arith)

  pub store_answered : AnswersAll old (map (λ (t : Taken). t.step) taken) (map (λ (t : Taken). t.answer) taken)
  store_answered h positions trace stands =
      let k = explained.goes_on h positions trace stands in
      settled_answers new.opening new.world (h ++ k.0) (positions ++ k.1) (trace ++ read_off old.opening.config (map (λ (t : Taken). t.step) taken) (map (λ (t : Taken). t.answer) taken)) k.2
      (λ n inside. (let same = same_nodes in settled n (omega arith)))

  pub store_few : length taken ≤ old.opening.config.nodes * (old.opening.config.slots + 14)
  store_few =
      subst (λ (ts : List Taken). length ts ≤ old.opening.config.nodes * (old.opening.config.slots + 14)) (sym all_world.taken_steps)
      (all_few old.opening 0 old.opening.config.nodes old.world x (omega arith))

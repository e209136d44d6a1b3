-- The answers of a batch, and the steps that hand answers out.
use Rattle.std.proofs.Common.{◌≡◌, ℕ, suc, ◌+◌, ◌≤◌, List, [], ◌∷◌, ◌++◌, length, take, true, Option, Some, None, refl, sym, ap, ◌∙◌, ⊎_elim, arith, subst}
use Rattle.std.specs.Prelude.{slice_get, slice_set, cond, option_map}
use Rattle.std.specs.Option.{option_and_then}
use Rattle.std.proofs.lemmas.Bool.{cases_lt}
use Rattle.std.proofs.lemmas.Option.{slice_get_past}
use Rattle.oplog.specs.declared.records.Op.TheVariants.{Run}
use Rattle.oplog.specs.History.{ReadEffect, History}
use Rattle.oplog.specs.Logs.{Log}
use Rattle.combiner.specs.declared.slots.Reply.TheVariants.{Placed, Ended}
use Rattle.combiner.specs.Desks.{IsAnswered}
use Rattle.readpath.specs.declared.reading.ReadAnswer.{ReadAnswer}
use Rattle.replica.specs.StoreMeaning.{store_meaning, outcome_of}
use Rattle.node.specs.Following.{may_answer}
use Rattle.node.specs.Answering.{answered_batch, HaveRun}
use Rattle.node.proofs.Export.{answers_placed, answers_ended}
use Rattle.schedule.specs.declared.parts.BegunRead.{BegunRead}
use Rattle.node.specs.declared.parts.Written.{Written}
use Rattle.node.specs.declared.parts.NodeBatch.TheVariants.{InLog}
use Rattle.schedule.specs.declared.parts.Opening.{Opening}
use Rattle.schedule.specs.declared.steps.Step.{Step}
use Rattle.schedule.specs.declared.steps.StepAnswer.{StepAnswer}
use Rattle.schedule.specs.declared.steps.StepAnswer.TheVariants as answers
use Rattle.schedule.specs.Trace.{ReadBack, Back}
use Rattle.schedule.specs.Worlds.{NodeView, WorldView, own_of}
use Rattle.schedule.specs.Steps.{Part, Took, with_call_or_back, put_part, part_of, node_of, took, world_of, world_after, trace_after, with_event, session_of_slot, read_at, with_read, read_answer}
use Rattle.schedule.specs.Stands.{BatchStands, WrittenStands, Stands}
use Rattle.schedule.specs.Taking.{WorldState, store_of, step_answer, answers_to, TakesPart, Takes, IsOfStore, IsStanding}
use Rattle.schedule.proofs.Lists.{set_back}
use Rattle.schedule.proofs.Options.{map_gives}
use Rattle.schedule.proofs.Appends.{take_snoc}
use Rattle.schedule.proofs.Runs.{step_keeps}
use Rattle.machine.proofs.Export.{get_inside}

-- ---- a batch that is run

module _ {m : Opening} {g : Log} {node : NodeView} (x : IsOfStore m g node) (b : Written) (is : node.batch ≡ InLog b) (empty : length node.hand.records ≡ 0) where
  wr : WrittenStands m x.history node.replica node.hand b
  wr = subst (λ y. BatchStands m x.history node.replica node.hand y) is x.stands.batch

  pub have_run : HaveRun b.replies b.batch
  have_run k lt inside = let r = get_inside b.batch.records k inside in let a = wr.ahead in let known = wr.known k r.0 lt r.1 (omega arith) in (outcome_of known.0, known.2)

-- each request of it is answered
pub all_answered : (b : Written) → HaveRun b.replies b.batch → IsAnswered (answered_batch b.replies b.batch)
all_answered b run k lt =
    let r = get_inside b.batch.records k lt in
    ⊎_elim
    (λ has. let o = run k has lt in (Placed (b.replies.first + k) (o.0).reply, answers_placed b.batch.records b.replies.outcomes b.replies.first k r.0 (Some o.0) r.1 o.1))
    (λ late. (Ended, answers_ended b.batch.records b.replies.outcomes b.replies.first k r.0 r.1 late))
    (cases_lt k (length b.replies.outcomes))

-- ---- reads

pub read_taken : (m : Opening) (g : Log) (node new : NodeView) (s : ℕ) (read : BegunRead) (given : ReadAnswer) → read_at node s ≡ Some read → may_answer read.seen g.done (own_of node) ≡ true
    → given.point ≡ node.replica.tail → option_map (λ (e : ReadEffect). e.reply) (store_meaning.read m.catalogue (Run read.call) node.replica.state) ≡ Some given.reply → new ≡ with_read node s None
    → TakesPart (read_answer m s g node) g node g new (answers.ReadBack given)
read_taken m g node new s read given at may point reply is =
    let d = map_gives (λ (e : ReadEffect). e.reply) (store_meaning.read m.catalogue (Run read.call) node.replica.state) given.reply reply in
    let part : ReadEffect → Part = λ e. with_call_or_back (Back (session_of_slot node s) (ReadBack (record { point = node.replica.tail; reply = e.reply }))) g (with_read node s None) in
    let same : given ≡ (let v : ReadAnswer = record { point = node.replica.tail; reply = (d.0).reply } in v) =
    ap (λ k. (let v : ReadAnswer = record { point = k; reply = given.reply } in v)) point ∙ ap (λ k. (let v : ReadAnswer = record { point = node.replica.tail; reply = k } in v)) (sym d.2) in
    let finds : read_answer m s g node ≡ Some (part d.0) =
    ap (λ o. option_and_then (λ (r : BegunRead). cond (may_answer r.seen g.done (own_of node)) (option_map part (store_meaning.read m.catalogue (Run r.call) node.replica.state)) None) o) at
    ∙ ap (λ c. cond c (option_map part (store_meaning.read m.catalogue (Run read.call) node.replica.state)) None) may
    ∙ ap (λ o. option_map part o) d.1 in
    subst (λ o. TakesPart o g node g new (answers.ReadBack given)) (sym finds) (ap answers.ReadBack same, refl, is)

-- ---- the whole store

pub of_store : (s : WorldState) (x : IsStanding s) (n : ℕ) (node : NodeView) → slice_get s.world.nodes n ≡ Some node → IsOfStore s.opening s.world.log node
of_store s x n node at = record {
  history = x.history;
  positions = x.positions;
  trace = x.trace;
  number = n;
  config = x.config;
  catalogue = x.stands.catalogue;
  updates = x.stands.explains.updates;
  log = x.stands.log;
  stands = x.stands.nodes n node at;
}

-- the store after the node's part of a step
pub stepped : (s : WorldState) (step : Step) (node : NodeView) (g : Log) (new : NodeView) (answer : StepAnswer) → slice_get s.world.nodes (node_of step) ≡ Some node
    → TakesPart (part_of s.opening step s.world.log node) s.world.log node g new answer
    → Takes (took s.opening s.world step) s (store_of s.opening g (slice_set s.world.nodes (node_of step) new)) answer
stepped s step node g new answer at takes =
    let finds : took s.opening s.world step ≡ option_map (put_part s.world (node_of step)) (part_of s.opening step s.world.log node) =
    ap (λ o. option_and_then (λ k. option_map (put_part s.world (node_of step)) (part_of s.opening step s.world.log k)) o) at in
    subst (λ o. Takes o s (store_of s.opening g (slice_set s.world.nodes (node_of step) new)) answer) (sym finds) (go (part_of s.opening step s.world.log node) takes)
  where
    go : (o : Option Part) → TakesPart o s.world.log node g new answer → Takes (option_map (put_part s.world (node_of step)) o) s (store_of s.opening g (slice_set s.world.nodes (node_of step) new)) answer
    go None (is, log, same) = (
      is,
      ap (λ k. store_of s.opening k (slice_set s.world.nodes (node_of step) new)) log ∙ ap (λ k. store_of s.opening s.world.log (slice_set s.world.nodes (node_of step) k)) same
          ∙ ap (λ ns. store_of s.opening s.world.log ns) (set_back s.world.nodes (node_of step) node at),
    )
    go (Some p) (is, log, same) = (
      is,
      ap (λ k. store_of s.opening k (slice_set s.world.nodes (node_of step) new)) log ∙ ap (λ k. store_of s.opening p.log (slice_set s.world.nodes (node_of step) k)) same,
    )

-- the store is standing after a step, too
pub still_standing : (s new : WorldState) (step : Step) (answer : StepAnswer) → IsStanding s → Takes (took s.opening s.world step) s new answer → IsStanding new
still_standing s new step answer x takes = go (took s.opening s.world step) takes (step_keeps s.opening s.world x.history x.positions x.trace step x.stands)
  where
    go : (o : Option Took) → Takes o s new answer → ((more : History) × (later : List ℕ) × Stands s.opening (world_after s.world o) (x.history ++ more) (x.positions ++ later) (trace_after x.trace o)) → IsStanding new
    go None (is, same) k = subst IsStanding (sym same) x
    go (Some r) (is, same) k = subst IsStanding (sym same) (record { config = x.config; history = x.history ++ k.0; positions = x.positions ++ k.1; trace = with_event x.trace r.event; stands = k.2 })

-- ---- several steps

-- the store after a step, taken or not, and its answer
pub takes_after : (o : Option Took) (old new : WorldState) (answer : StepAnswer) → Takes o old new answer → (new ≡ record old { world = world_after old.world o }) × (answer ≡ step_answer o)
takes_after None old new answer (is, same) = (same, is)
takes_after (Some r) old new answer (is, same) = (same, is)

world_snoc : (m : Opening) (w : WorldView) (steps : List Step) (step : Step) → world_of m w (steps ++ step ∷ []) ≡ world_after (world_of m w steps) (took m (world_of m w steps) step)
world_snoc m w [] step = refl
world_snoc m w (s ∷ steps) step = world_snoc m (world_after w (took m w s)) steps step

answers_snoc : (m : Opening) (w : WorldView) (steps : List Step) (step : Step) → answers_to m w (steps ++ step ∷ []) ≡ answers_to m w steps ++ step_answer (took m (world_of m w steps) step) ∷ []
answers_snoc m w [] step = refl
answers_snoc m w (s ∷ steps) step = ap (λ xs. step_answer (took m w s) ∷ xs) (answers_snoc m (world_after w (took m w s)) steps step)

-- one step more
pub steps_next : (start now new : WorldState) (steps : List Step) (i : ℕ) (step : Step) (answer : StepAnswer) (so_far : List StepAnswer) → slice_get steps i ≡ Some step
    → now ≡ record start { world = world_of start.opening start.world (take i steps) } → so_far ≡ answers_to start.opening start.world (take i steps) → Takes (took now.opening now.world step) now new answer
    → (new ≡ record start { world = world_of start.opening start.world (take (i + 1) steps) }) × (so_far ++ answer ∷ [] ≡ answers_to start.opening start.world (take (i + 1) steps))
steps_next start now new steps i step answer so_far at is are takes =
    let longer : take (i + 1) steps ≡ take i steps ++ step ∷ [] = (let e : i + 1 ≡ suc i = omega arith in ap (λ k. take k steps) e ∙ take_snoc i steps step at) in
    let w : WorldView = world_of start.opening start.world (take i steps) in
    let a = takes_after (took start.opening w step) (record start { world = w }) new answer (subst (λ v. Takes (took v.opening v.world step) v new answer) is takes) in (
      a.0 ∙ ap (λ k. (let v : WorldState = record start { world = k } in v)) (sym (world_snoc start.opening start.world (take i steps) step) ∙ ap (world_of start.opening start.world) (sym longer)),
      ap (λ xs. xs ++ answer ∷ []) are ∙ ap (λ y. answers_to start.opening start.world (take i steps) ++ y ∷ []) a.1
          ∙ sym (answers_snoc start.opening start.world (take i steps) step) ∙ ap (answers_to start.opening start.world) (sym longer),
    )

-- a step of a node that is not there
pub not_there : (s : WorldState) (step : Step) → length s.world.nodes ≤ node_of step → Takes (took s.opening s.world step) s s answers.NotNow
not_there s step l =
    let finds : took s.opening s.world step ≡ None = ap (λ o. option_and_then (λ k. option_map (put_part s.world (node_of step)) (part_of s.opening step s.world.log k)) o) (slice_get_past s.world.nodes (node_of step) l) in
    subst (λ o. Takes o s s answers.NotNow) (sym finds) (refl, refl)

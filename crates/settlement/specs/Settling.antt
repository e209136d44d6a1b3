-- How the open calls of a node are answered by steps of that node alone: one list of steps, whatever the store is at.
use Rattle.std.specs.Prelude.{◌≡◌, ◌≢◌, ℕ, zero, suc, ◌+◌, ◌*◌, ◌<◌, ◌≤◌, true, List, [], ◌∷◌, ◌++◌, length, Option, Some, None, slice_get}
use Rattle.verifier.specs.declared.refusal.Mode.{Mode}
use Rattle.loader.specs.CatalogueView.{IsCatalogue}
use Rattle.oplog.specs.declared.configuration.Sizes.{Sizes}
use Rattle.oplog.specs.Operations.{Operation}
use Rattle.oplog.specs.History.{History}
use Rattle.oplog.specs.Limits.{AreSizes}
use Rattle.oplog.specs.Sessions.{IsSessionOf}
use Rattle.schedule.specs.declared.parts.Opening.{Opening}
use Rattle.schedule.specs.declared.steps.Step.{Step}
use Rattle.schedule.specs.declared.steps.Step.TheVariants.{Claim, Append, Replay, Finish, Reply, Collect, ReadAnswer, Reclaim, Rebase}
use Rattle.schedule.specs.declared.steps.StepAnswer.{StepAnswer}
use Rattle.schedule.specs.Trace.{Answer, Call, Trace, Positions, Answers}
use Rattle.schedule.specs.Worlds.{NodeView, WorldView, opened}
use Rattle.schedule.specs.Steps.{Took, took, world_after, world_of, trace_of, is_idle}
use Rattle.schedule.specs.Stands.{Stands}
use Rattle.schedule.specs.Taking.{WorldState, answer_of}
use Rattle.schedule.specs.ReadOff.{read_off}
use Rattle.schedule.specs.Headline.{IsExplained}
use Rattle.settlement.specs.declared.calls.Taken.{Taken}

-- ---- the list

-- the replica comes to the log's end, and the whole log is completed
abbrev pub following : ℕ → List Step
following n = Replay n ∷ Rebase n ∷ Replay n ∷ Finish n ∷ []

-- a batch that is in the log is answered
abbrev pub answering : ℕ → List Step
answering n = Replay n ∷ Finish n ∷ Reply n ∷ []

-- at so many slots, from slot s on, the answers go to their sessions
abbrev pub handing_out : (n s count : ℕ) → List Step
handing_out n s zero = []
handing_out n s (suc count) = Collect n s ∷ ReadAnswer n s ∷ handing_out n (suc s) count

-- the node follows the log, and ends a batch that is in it; the log takes its replica as the base; it ends a batch that is claimed, and claims
-- what is posted and ends that; it hands the answers out
abbrev pub settling : (n slots : ℕ) → List Step
settling n slots = following n ++ (Reply n ∷ Reclaim n ∷ Append n ∷ (answering n ++ (Claim n ∷ Append n ∷ (answering n ++ handing_out n 0 slots))))

-- so many nodes in turn, from node n on
abbrev pub settling_all : (n count slots : ℕ) → List Step
settling_all n zero slots = []
settling_all n (suc count) slots = settling n slots ++ settling_all (suc n) count slots

-- ---- those of the steps that are taken

-- a step that is taken, with its answer, before others
abbrev pub before_taken : Step → Option Took → List Taken → List Taken
before_taken step None rest = rest
before_taken step (Some r) rest = record { step = step; answer = answer_of r.event } ∷ rest

-- the steps that are taken, with what each answers
abbrev pub taken_of : Opening → WorldView → List Step → List Taken
taken_of m w [] = []
taken_of m w (step ∷ steps) = before_taken step (took m w step) (taken_of m (world_after w (took m w step)) steps)

-- a store has taken those of these steps that may be taken, each when it is its turn: these
pub record HasTaken (old : WorldState) (steps : List Step) (taken : List Taken) (new : WorldState) : Type 0 where
  pub world : new ≡ record old { world = world_of old.opening old.world steps }
  pub taken_steps : taken ≡ taken_of old.opening old.world steps

-- ---- one node

-- no call of the node is open: no slot has a request, an answer or a read
abbrev pub IsSettled : NodeView → Type 0
IsSettled node = (s : ℕ) → s < length node.desk.slots → is_idle node s ≡ true

-- the node is there, and no call of it is open
abbrev pub IsSettledAt : WorldView → ℕ → Type 0
IsSettledAt w n = (node : NodeView) × (slice_get w.nodes n ≡ Some node) × IsSettled node

-- the list of node n leaves no call of it open, and the other nodes as they were; at most 14 of its steps are taken, and one for each slot
pub record SettlesAlone (m : Opening) (w : WorldView) (n : ℕ) : Type 0 where
  pub settled : IsSettledAt (world_of m w (settling n m.config.slots)) n
  pub others : (k : ℕ) → k ≢ n → slice_get (world_of m w (settling n m.config.slots)).nodes k ≡ slice_get w.nodes k
  pub few : length (taken_of m w (settling n m.config.slots)) ≤ m.config.slots + 14

-- so it is from every store that stands, wherever the other nodes have stopped
abbrev pub NodesSettleAlone : Type 0
NodesSettleAlone =
    (m : Opening) (w : WorldView) (h : History) (positions : Positions) (t : Trace) (n : ℕ) → AreSizes m.config → Stands m w h positions t
    → n < m.config.nodes → SettlesAlone m w n

-- ---- all nodes

-- the lists of all nodes
abbrev pub settling_store : Sizes → List Step
settling_store config = settling_all 0 config.nodes config.slots

-- each call of the trace has its answer
abbrev pub AllAnswered : Trace → Type 0
AllAnswered t =
    (x : ℕ) (mode : Mode) (op : Operation) (c : ℕ) → slice_get t c ≡ Some (Call x mode op) → (b : ℕ) × (answer : Answer) × Answers t x mode op c b answer

-- so has each call of the sessions of this node
abbrev pub NodeAnswered : Sizes → (node : ℕ) → Trace → Type 0
NodeAnswered sizes node t =
    (x : ℕ) (mode : Mode) (op : Operation) (c : ℕ) → IsSessionOf sizes node x → slice_get t c ≡ Some (Call x mode op)
    → (b : ℕ) × (answer : Answer) × Answers t x mode op c b answer

-- so has each call of a trace that stands for the store, followed by what is read off these steps and answers
abbrev pub AnswersAll : WorldState → List Step → List StepAnswer → Type 0
AnswersAll old steps answers =
    (h : History) (positions : Positions) (t : Trace) → Stands old.opening old.world h positions t → AllAnswered (t ++ read_off old.opening.config steps answers)

-- after these steps, ready or not, the lists of all nodes: each call of the whole trace has its answer, and one history explains them all
pub record SettlesAfter (m : Opening) (steps : List Step) : Type 0 where
  pub answered : AllAnswered (trace_of m (opened m) [] (steps ++ settling_store m.config))
  pub explained : IsExplained m (world_of m (opened m) (steps ++ settling_store m.config)) (trace_of m (opened m) [] (steps ++ settling_store m.config))
  pub few : length (taken_of m (world_of m (opened m) steps) (settling_store m.config)) ≤ m.config.nodes * (m.config.slots + 14)

-- no list of steps leads a new store to where a call can't be answered
abbrev pub EveryScheduleSettles : Type 0
EveryScheduleSettles = (m : Opening) (steps : List Step) → AreSizes m.config → IsCatalogue m.catalogue → SettlesAfter m steps

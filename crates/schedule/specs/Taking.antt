-- What a call that takes a step does.
use Rattle.std.specs.Prelude.{◌≡◌, ℕ, true, false, List, [], ◌∷◌, Option, Some, None, Result, MatchResult}
use Rattle.verifier.specs.declared.refusal.Mode.{Mode}
use Rattle.verifier.specs.declared.refusal.Mode.TheVariants.{Update}
use Rattle.loader.specs.CatalogueView.{CatalogueView, IsCatalogue}
use Rattle.oplog.specs.Calls.{Call as ProgramCall, NewProgram}
use Rattle.oplog.specs.Operations.{Operation}
use Rattle.oplog.specs.declared.records.Op.TheVariants.{Run, Install}
use Rattle.oplog.specs.History.{History}
use Rattle.oplog.specs.Limits.{AreSizes}
use Rattle.oplog.specs.Logs.{Log}
use Rattle.replica.specs.StoreMeaning.{is_operation, AreUpdates}
use Rattle.schedule.specs.declared.parts.Opening.{Opening}
use Rattle.schedule.specs.declared.steps.Step.{Step}
use Rattle.schedule.specs.declared.steps.StepAnswer.{StepAnswer}
use Rattle.schedule.specs.declared.steps.StepAnswer.TheVariants as answers
use Rattle.schedule.specs.Trace.{Updated, ReadBack, Event, Call, Back, Trace, Positions}
use Rattle.schedule.specs.Worlds.{NodeView, WorldView, opened}
use Rattle.schedule.specs.Steps.{Part, Took, took, world_after}
use Rattle.schedule.specs.Stands.{LogStands, NodeStands, Stands}

-- a store, with what it was opened with
pub record WorldState : Type 0 where
  pub opening : Opening
  pub world : WorldView

-- the store of this log and these nodes
abbrev pub store_of : Opening → Log → List NodeView → WorldState
store_of m g nodes = record { opening = m; world = record { log = g; nodes = nodes } }

-- a new store
abbrev pub opened_store : Opening → WorldState
opened_store m = record { opening = m; world = opened m }

-- what a step answers that is taken: the answer of a call that is answered
abbrev pub answer_of : Option Event → StepAnswer
answer_of None = answers.Done
answer_of (Some (Call x mode op)) = answers.Done
answer_of (Some (Back x (Updated reply))) = answers.Back reply
answer_of (Some (Back x (ReadBack answer))) = answers.ReadBack answer

-- where the node may not take the step, NotNow and no change; else what the step makes of the log and of the node
abbrev pub TakesPart : Option Part → Log → NodeView → Log → NodeView → StepAnswer → Type 0
TakesPart None g node g' node' answer = (answer ≡ answers.NotNow) × (g' ≡ g) × (node' ≡ node)
TakesPart (Some p) g node g' node' answer = (answer ≡ answer_of p.event) × (g' ≡ p.log) × (node' ≡ p.node)

-- so it is of a step that leaves the log as it was
abbrev pub TakesOwnPart : (Log → NodeView → Option Part) → Log → NodeView → NodeView → StepAnswer → Type 0
TakesOwnPart step g node node' answer = TakesPart (step g node) g node g node' answer

-- on whatever log, where so many operations are completed
abbrev pub TakesWith : ℕ → (Log → NodeView → Option Part) → NodeView → NodeView → StepAnswer → Type 0
TakesWith done step node node' answer = (g : Log) → g.done ≡ done → TakesOwnPart step g node node' answer

-- the operation is one of the store's catalogue, of this mode
abbrev pub MayCall : Opening → Mode → Operation → Type 0
MayCall m mode op = is_operation mode m.catalogue op ≡ true

-- the call, if its program is one of the catalogue, of this mode
abbrev pub GivesCall : {E : Type 0} → Mode → CatalogueView → ProgramCall → Result ProgramCall E → Type 0
GivesCall mode c asked given = MatchResult given (λ call. (call ≡ asked) × (is_operation mode c (Run call) ≡ true)) (λ e. is_operation mode c (Run asked) ≡ false)

-- the installing of the program, if it may be installed
abbrev pub GivesProgram : {E : Type 0} → CatalogueView → NewProgram → Result Operation E → Type 0
GivesProgram c asked given = MatchResult given (λ op. (op ≡ Install asked) × (is_operation Update c op ≡ true)) (λ e. is_operation Update c (Install asked) ≡ false)

-- where the step may not be taken, NotNow and no change; else what it makes of the store
abbrev pub Takes : Option Took → WorldState → WorldState → StepAnswer → Type 0
Takes None old new answer = (answer ≡ answers.NotNow) × (new ≡ old)
Takes (Some r) old new answer = (answer ≡ answer_of r.event) × (new ≡ record old { world = r.world })

-- what a step answers, taken or not
abbrev pub step_answer : Option Took → StepAnswer
step_answer None = answers.NotNow
step_answer (Some r) = answer_of r.event

-- what these steps answer, one after another
abbrev pub answers_to : Opening → WorldView → List Step → List StepAnswer
answers_to m w [] = []
answers_to m w (step ∷ steps) = step_answer (took m w step) ∷ answers_to m (world_after w (took m w step)) steps

-- the log and a node are those of a store that stands for a history
pub record IsOfStore (m : Opening) (g : Log) (node : NodeView) : Type 0 where
  pub history : History
  pub positions : Positions
  pub trace : Trace
  pub number : ℕ
  pub config : AreSizes m.config
  pub catalogue : IsCatalogue m.catalogue
  pub updates : AreUpdates m.catalogue history
  pub log : LogStands m g history
  pub stands : NodeStands m g.done history positions trace number node

-- some history stands for the store
pub record IsStanding (s : WorldState) : Type 0 where
  pub config : AreSizes s.opening.config
  pub history : History
  pub positions : Positions
  pub trace : Trace
  pub stands : Stands s.opening s.world history positions trace

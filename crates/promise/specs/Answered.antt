-- Which calls a store takes, how it answers, and when it has answered all. A store that takes no call does not meet this.
use Rattle.std.specs.Prelude.{◌≡◌, ℕ, ◌<◌, ◌≤◌, ◌⊎◌, List, ◌++◌, take, Some, slice_get}
use Rattle.verifier.specs.declared.refusal.Mode.TheVariants.{Update, Read}
use Rattle.loader.specs.CatalogueView.{CatalogueView}
use Rattle.oplog.specs.declared.configuration.Sizes.{Sizes}
use Rattle.oplog.specs.Sessions.{session}
use Rattle.replica.specs.StoreMeaning.{IsOffered, call_of}
use Rattle.schedule.specs.declared.steps.Step.{Step}
use Rattle.schedule.specs.declared.steps.Step.TheVariants.{Collect, Install, Post, ReadAnswer, ReadBegin}
use Rattle.schedule.specs.declared.steps.StepAnswer.{StepAnswer}
use Rattle.schedule.specs.declared.steps.StepAnswer.TheVariants.{Back, Done, NotNow, ReadBack}
use Rattle.schedule.specs.ReadOff.{read_off}
use Rattle.schedule.specs.Steps.{node_of}
use Rattle.schedule.specs.Trace.{IsIdle, Trace}
use Rattle.settlement.specs.Settling.{AllAnswered, NodeAnswered, settling, settling_store}

-- the store has this slot, and the slot's session waits for no answer
abbrev pub IsFree : Sizes → Trace → (node slot : ℕ) → Type 0
IsFree sizes trace node slot = (node < sizes.nodes) × (slot < sizes.slots) × IsIdle trace (session sizes node slot)

-- the step is a call, at a free slot, of a program of the catalogue
abbrev pub IsDue : Sizes → CatalogueView → Trace → Step → Type 0
IsDue sizes c trace (Post node slot program argument) =
    IsFree sizes trace node slot × IsOffered Update c (call_of program argument.items)
IsDue sizes c trace (ReadBegin node slot program argument) =
    IsFree sizes trace node slot × IsOffered Read c (call_of program argument.items)
IsDue sizes c trace step = ⊥

-- each call that is due, after the steps before it, is taken
abbrev pub TakesCalls : Sizes → CatalogueView → List Step → List StepAnswer → Type 0
TakesCalls sizes c steps answers =
    (i : ℕ) (step : Step) → slice_get steps i ≡ Some step
    → IsDue sizes c (read_off sizes (take i steps) (take i answers)) step → slice_get answers i ≡ Some Done

-- the step names a slot that no node of the store has
abbrev pub NamesNoSlot : Sizes → Step → Type 0
NamesNoSlot sizes (Post node slot program argument) = sizes.slots ≤ slot
NamesNoSlot sizes (Install node slot mode arg_len bytes) = sizes.slots ≤ slot
NamesNoSlot sizes (Collect node slot) = sizes.slots ≤ slot
NamesNoSlot sizes (ReadBegin node slot program argument) = sizes.slots ≤ slot
NamesNoSlot sizes (ReadAnswer node slot) = sizes.slots ≤ slot
NamesNoSlot sizes step = ⊥

-- the step names a node that the store has not, or such a slot
abbrev pub IsAbsent : Sizes → Step → Type 0
IsAbsent sizes step = (sizes.nodes ≤ node_of step) ⊎ NamesNoSlot sizes step

-- no such step is taken
abbrev pub TakesNoneAbsent : Sizes → List Step → List StepAnswer → Type 0
TakesNoneAbsent sizes steps answers =
    (i : ℕ) (step : Step) → slice_get steps i ≡ Some step → IsAbsent sizes step → slice_get answers i ≡ Some NotNow

-- a step may be answered so: where one collects, by the answer to an update; where one asks for a read's answer, by that; elsewhere it is done;
-- or it may not be taken now
abbrev pub MayAnswer : StepAnswer → Step → Type 0
MayAnswer (Back reply) (Collect node slot) = Unit {0}
MayAnswer (Back reply) step = ⊥
MayAnswer (ReadBack answer) (ReadAnswer node slot) = Unit {0}
MayAnswer (ReadBack answer) step = ⊥
MayAnswer Done (Collect node slot) = ⊥
MayAnswer Done (ReadAnswer node slot) = ⊥
MayAnswer Done step = Unit {0}
MayAnswer NotNow step = Unit {0}

-- each step is answered by what it may be answered by
abbrev pub AnswersSuit : List Step → List StepAnswer → Type 0
AnswersSuit steps answers =
    (i : ℕ) (step : Step) (answer : StepAnswer) → slice_get steps i ≡ Some step → slice_get answers i ≡ Some answer
    → MayAnswer answer step

-- Wherever the steps by which one node settles have gone through, each call of its sessions before their end has its answer there, whatever the other
-- nodes have done or not done.
abbrev pub NodesSettle : Sizes → List Step → List StepAnswer → Type 0
NodesSettle sizes steps answers =
    (k node : ℕ) (before : List Step) → take k steps ≡ before ++ settling node sizes.slots
    → NodeAnswered sizes node (read_off sizes (take k steps) (take k answers))

-- wherever the steps by which each node in turn settles have gone through, each call before their end has its answer there
abbrev pub Settles : Sizes → List Step → List StepAnswer → Type 0
Settles sizes steps answers =
    (k : ℕ) (before : List Step) → take k steps ≡ before ++ settling_store sizes
    → AllAnswered (read_off sizes (take k steps) (take k answers))

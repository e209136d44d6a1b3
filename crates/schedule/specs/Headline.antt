-- What holds after every list of steps.
use Rattle.std.specs.Prelude.{◌≡◌, ℕ, ◌≤◌, List, [], ◌++◌, length, Some, slice_get}
use Rattle.loader.specs.CatalogueView.{IsCatalogue}
use Rattle.oplog.specs.History.{History, state_after}
use Rattle.oplog.specs.Logs.{tail_of}
use Rattle.replica.specs.StoreMeaning.{store_meaning}
use Rattle.schedule.specs.declared.steps.Step.{Step}
use Rattle.schedule.specs.declared.steps.StepAnswer.{StepAnswer}
use Rattle.schedule.specs.Trace.{Trace, Positions}
use Rattle.schedule.specs.declared.parts.Opening.{Opening}
use Rattle.schedule.specs.Explains.{Explains}
use Rattle.schedule.specs.Worlds.{WorldView, NodeView, opened}
use Rattle.schedule.specs.Steps.{world_of, trace_of, took, world_after, trace_after}
use Rattle.schedule.specs.Stands.{Stands}
use Rattle.schedule.specs.Taking.{WorldState, IsStanding, opened_store, answers_to}
use Rattle.schedule.specs.ReadOff.{read_off}

-- a history, with the calls at its indexes, explains the trace and the store: the log ends with it, there are as many nodes as the
-- store was opened with, and each replica is at one of the history's beginnings
pub record IsExplainedBy (m : Opening) (w : WorldView) (h : History) (positions : Positions) (t : Trace) : Type 0 where
  pub explains : Explains m h positions t
  pub tail : tail_of w.log ≡ length h
  pub nodes : length w.nodes ≡ m.config.nodes
  pub replicas : (n : ℕ) (node : NodeView) → slice_get w.nodes n ≡ Some node
      → (node.replica.tail ≤ length h) × (node.replica.state ≡ state_after store_meaning m.catalogue h node.replica.tail)

-- some history explains them
abbrev pub IsExplained : Opening → WorldView → Trace → Type 0
IsExplained m w t = (h : History) × (positions : Positions) × IsExplainedBy m w h positions t

-- ---- on a call

-- from this history there goes on one, which keeps its indexes, that stands for the store and the trace, and explains them
abbrev pub GoesOn : History → Positions → Opening → WorldView → Trace → Type 0
GoesOn h positions m w t =
    (more : History) × (later : Positions) × Stands m w (h ++ more) (positions ++ later) t × IsExplainedBy m w (h ++ more) (positions ++ later) t

-- these steps of a store, answered so, are explained: one history explains what is read off them, with all that was before
pub record StepsAreExplained (old : WorldState) (steps : List Step) (answers : List StepAnswer) (new : WorldState) : Type 0 where
  -- each step has its answer, and the store keeps its configuration and its catalogue
  pub answered : length answers ≡ length steps
  pub opening : new.opening ≡ old.opening
  -- of a new store, what is read off them is the whole trace, and one history explains it
  pub whole : old ≡ opened_store old.opening → IsExplained new.opening new.world (read_off old.opening.config steps answers)
  -- some history stands for each store and for a trace of it; ..
  pub stood : IsStanding old
  -- .. from each that does there goes on one that explains that trace followed by what is read off these steps
  pub goes_on : (h : History) (positions : Positions) (t : Trace) → Stands old.opening old.world h positions t
      → GoesOn h positions new.opening new.world (t ++ read_off old.opening.config steps answers)

-- ---- laws

-- after any list of steps, ready or not, a new store is explained
abbrev pub EverySchedule : Type 0
EverySchedule = (m : Opening) (steps : List Step) → IsCatalogue m.catalogue → IsExplained m (world_of m (opened m) steps) (trace_of m (opened m) [] steps)

-- what steps add to a trace is what they and their answers tell, from any store that stands on, whatever the trace before them
abbrev pub TraceIsReadOff : Type 0
TraceIsReadOff =
    (m : Opening) (w : WorldView) (h : History) (positions : Positions) (past t : Trace) (steps : List Step) → Stands m w h positions past
    → trace_of m w t steps ≡ t ++ read_off m.config steps (answers_to m w steps)

-- a new store stands for the empty history
abbrev pub OpeningStands : Type 0
OpeningStands = (m : Opening) → IsCatalogue m.catalogue → Stands m (opened m) [] [] []

-- a step from a store that stands leads to one that stands for a history that begins with this one, with those positions kept and the
-- step's event added
abbrev pub StepKeeps : Type 0
StepKeeps =
    (m : Opening) (w : WorldView) (h : History) (positions : Positions) (t : Trace) (step : Step) → Stands m w h positions t
    → (more : History) × (later : Positions) × Stands m (world_after w (took m w step)) (h ++ more) (positions ++ later) (trace_after t (took m w step))

-- so do any steps, one after another
abbrev pub StepsKeep : Type 0
StepsKeep =
    (m : Opening) (w : WorldView) (h : History) (positions : Positions) (t : Trace) (steps : List Step) → Stands m w h positions t
    → (more : History) × (later : Positions) × Stands m (world_of m w steps) (h ++ more) (positions ++ later) (trace_of m w t steps)

-- a store that stands for a history is explained by it
abbrev pub StandingIsExplained : Type 0
StandingIsExplained = (m : Opening) (w : WorldView) (h : History) (positions : Positions) (t : Trace) → Stands m w h positions t → IsExplainedBy m w h positions t

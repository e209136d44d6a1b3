-- What a node's own steps do while other nodes go on.
use Rattle.std.specs.Prelude.{◌≡◌, ◌≢◌, ℕ, ◌<◌, ◌⊎◌, List, [], ◌∷◌, ◌++◌, Some, slice_get}
use Rattle.std.specs.List.{AllByRecursion}
use Rattle.oplog.specs.History.{History}
use Rattle.oplog.specs.Limits.{AreSizes}
use Rattle.oplog.specs.Logs.{Log, tail_of}
use Rattle.combiner.specs.declared.slots.Reply.{Reply}
use Rattle.combiner.specs.declared.slots.Slot.{Slot}
use Rattle.combiner.specs.declared.slots.Stage.TheVariants.{Claimed, Answered}
use Rattle.node.specs.declared.parts.Written.{Written}
use Rattle.node.specs.declared.parts.NodeBatch.TheVariants.{Absent, InLog}
use Rattle.schedule.specs.declared.parts.Opening.{Opening}
use Rattle.schedule.specs.declared.steps.Step.{Step}
use Rattle.schedule.specs.declared.steps.Step.TheVariants.{Replay, Finish, Reply as Replies}
use Rattle.schedule.specs.Trace.{Trace, Positions}
use Rattle.schedule.specs.Worlds.{NodeView, WorldView}
use Rattle.schedule.specs.Steps.{took, world_after, world_of, node_of}
use Rattle.schedule.specs.Stands.{Stands}
use Rattle.settlement.specs.Settling.{settling, IsSettledAt}

-- ---- a batch that is in the log

-- steps of other nodes alone
abbrev pub AreOfOthers : ℕ → List Step → Type 0
AreOfOthers n steps = AllByRecursion (λ step. node_of step ≢ n) steps

-- a batch that was in the log is answered: each slot that was claimed has an answer
pub record HasEnded (w : WorldView) (n : ℕ) (node : NodeView) : Type 0 where
  pub new : NodeView
  pub there : slice_get w.nodes n ≡ Some new
  pub batch : new.batch ≡ Absent
  pub answered : (s : ℕ) (x : Slot) → slice_get node.desk.slots s ≡ Some x → x.stage ≡ Claimed
      → (y : Slot) × (reply : Reply) × (slice_get new.desk.slots s ≡ Some y) × (y.stage ≡ Answered reply)

-- three steps of its node end a batch that is in the log, whatever other nodes do before them and between them
abbrev pub LoggedBatchesEnd : Type 0
LoggedBatchesEnd =
    (m : Opening) (w : WorldView) (h : History) (positions : Positions) (t : Trace) (n : ℕ) (node : NodeView) (b : Written) (first second third : List Step)
    → AreSizes m.config → Stands m w h positions t → slice_get w.nodes n ≡ Some node → node.batch ≡ InLog b → AreOfOthers n first → AreOfOthers n second → AreOfOthers n third
    → HasEnded (world_of m w (first ++ (Replay n ∷ (second ++ (Finish n ∷ (third ++ (Replies n ∷ []))))))) n node

-- ---- the whole list

-- the node's own steps in their order, with steps of other nodes before, between and behind them
pub data Woven (n : ℕ) : List Step → List Step → Type 0 where
  Ends : Woven n [] []
  Own : (step : Step) (own all : List Step) → Woven n own all → Woven n (step ∷ own) (step ∷ all)
  Other : (step : Step) (own all : List Step) → node_of step ≢ n → Woven n own all → Woven n own (step ∷ all)

-- records were added, or the base has moved
abbrev pub HasMoved : Log → Log → Type 0
HasMoved g h = (tail_of g < tail_of h) ⊎ (g.base < h.base)

-- a step of another node of these has done so, where it was taken
pub data OthersMove (m : Opening) (n : ℕ) : WorldView → List Step → Type 0 where
  Here : (w : WorldView) (step : Step) (steps : List Step) → node_of step ≢ n → HasMoved w.log (world_after w (took m w step)).log → OthersMove m n w (step ∷ steps)
  Later : (w : WorldView) (step : Step) (steps : List Step) → OthersMove m n (world_after w (took m w step)) steps → OthersMove m n w (step ∷ steps)

-- a node that goes through its list once, whatever other nodes do meanwhile, has no call open then, or another node has added to the history
-- or moved the base meanwhile
abbrev pub NodesSettleOrOthersMove : Type 0
NodesSettleOrOthersMove =
    (m : Opening) (w : WorldView) (h : History) (positions : Positions) (t : Trace) (n : ℕ) (all : List Step) → AreSizes m.config
    → Stands m w h positions t → n < m.config.nodes → Woven n (settling n m.config.slots) all → IsSettledAt (world_of m w all) n ⊎ OthersMove m n w all

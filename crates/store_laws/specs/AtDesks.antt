-- A node's desk as it is lent to a session, and the schedule's steps post, collect and claim on it.
use Rattle.std.specs.Prelude.{◌≡◌, ℕ, not, Some, None, option_map, slice_get}
use Rattle.verifier.specs.declared.refusal.Mode.TheVariants.{Update}
use Rattle.oplog.specs.Operations.{Operation}
use Rattle.oplog.specs.Logs.{Log}
use Rattle.combiner.specs.Desks.{BatchView, DeskView, has_combiner, posted}
use Rattle.replica.specs.StoreMeaning.{store_meaning}
use Rattle.accounts.specs.Accounts.{IsAllowed}
use Rattle.node.specs.declared.parts.NodeBatch.TheVariants.{Held}
use Rattle.schedule.specs.declared.parts.Opening.{Opening}
use Rattle.schedule.specs.Steps.{claim, collect, no_batch, post, session_of_slot, silent, with_call_or_back}
use Rattle.schedule.specs.Trace.{Back, Call, Updated}
use Rattle.schedule.specs.Worlds.{NodeView}
use Rattle.store_steps.specs.declared.desks.Turn.{Turn}
use Rattle.store_steps.specs.declared.desks.Turn.TheVariants.{Collects, Combines, Waits}
use Rattle.store_steps.specs.AtDesk.{IsAt, IsTurn}
use Rattle.store_steps.specs.Standing.{SessionKnown}

-- ---- post

-- a session's post at the desk is the schedule's: of an operation that the catalogue allows, at a slot without a read
-- that was begun, it may be taken just where the slot is empty, and makes the same desk; the call is that of the
-- session of the slot
abbrev pub PostsThere : Opening → (s : ℕ) → Operation → Log → NodeView → Type 0
PostsThere m s op g node =
    slice_get node.reads s ≡ Some None → IsAllowed store_meaning m.catalogue op
    → post m s op g node ≡ option_map (λ y. with_call_or_back (Call (session_of_slot node s) Update op) g (record node { desk = y })) (posted s op node.desk)

-- the session of a slot of the node is the one that knows k, where that is at its own slot of this desk
abbrev pub IsItsOwn : (s : ℕ) → NodeView → Type 0
IsItsOwn s node = (k : SessionKnown) → IsAt s k node.desk → session_of_slot node s ≡ k.session

-- ---- collect

-- of a turn at the desk, after which it is y: the answer that is collected is the one that the schedule's collect
-- gives; else that may not be taken
abbrev pub CollectIs : (s : ℕ) → Log → NodeView → (y : DeskView) → Turn → Type 0
CollectIs s g node y (Collects reply) = collect s g node ≡ Some (with_call_or_back (Back (session_of_slot node s) (Updated reply)) g (record node { desk = y }))
CollectIs s g node y Combines = collect s g node ≡ None
CollectIs s g node y Waits = collect s g node ≡ None

abbrev pub CollectsThere : (s : ℕ) → Log → NodeView → Type 0
CollectsThere s g node = (y : DeskView) (batch : BatchView) (turn : Turn) → IsTurn s node.desk y batch turn → CollectIs s g node y turn

-- ---- claim

-- and where none is collected: the batch that is claimed is the one that the schedule's claim makes; else that may not
-- be taken
abbrev pub ClaimIs : Log → NodeView → (y : DeskView) → BatchView → Turn → Type 0
ClaimIs g node y batch (Collects reply) = Unit {0}
ClaimIs g node y batch Combines = claim g node ≡ Some (silent g (record node { desk = y; batch = Held batch }))
ClaimIs g node y batch Waits = (claim g node ≡ None) × (y ≡ node.desk)

-- the node has a batch just where requests are claimed at its desk
abbrev pub HasItsBatch : NodeView → Type 0
HasItsBatch node = no_batch node.batch ≡ not (has_combiner node.desk)

abbrev pub ClaimsThere : (s : ℕ) → Log → NodeView → Type 0
ClaimsThere s g node = HasItsBatch node → (y : DeskView) (batch : BatchView) (turn : Turn) → IsTurn s node.desk y batch turn → ClaimIs g node y batch turn

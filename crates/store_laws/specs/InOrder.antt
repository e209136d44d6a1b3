-- Whole calls in the words of the schedule: which of its steps they take, in which order.
use Rattle.std.specs.Prelude.{◌≡◌, ℕ, List, [], ◌∷◌, map, Option, Some, None}
use Rattle.oplog.specs.Logs.{Log}
use Rattle.oplog.specs.Calls.{Call}
use Rattle.oplog.specs.declared.records.Op.TheVariants.{Run}
use Rattle.combiner.specs.Desks.{BatchView, DeskView, replied}
use Rattle.readpath.specs.declared.reading.ReadAnswer.{ReadAnswer}
use Rattle.node.specs.Answering.{answered_batch}
use Rattle.node.specs.Seen.{OthersDo}
use Rattle.node.specs.Steps.{NodeStep, Appends, Replays, Finishes, Reclaims, Rebases, Replies, Seen}
use Rattle.node.specs.declared.parts.NodeBatch.TheVariants.{Absent, Held}
use Rattle.schedule.specs.declared.parts.BegunRead.{BegunRead}
use Rattle.schedule.specs.declared.parts.Opening.{Opening}
use Rattle.schedule.specs.declared.steps.Step.{Step}
use Rattle.schedule.specs.declared.steps.Step.TheVariants.{Append, Replay, Finish, Reply, Reclaim, Rebase, ReadAnswer as Answers}
use Rattle.schedule.specs.Steps.{Part, part_of, read_at, seen_of, session_of_slot, with_call_or_back, with_read}
use Rattle.schedule.specs.Trace.{Back, ReadBack}
use Rattle.schedule.specs.Worlds.{NodeView}
use Rattle.store_steps.specs.Views.{RepliesThere}
use Rattle.store_steps.specs.Standing.{SessionKnown}
use Rattle.store_steps.specs.Whole.{CombinesBy, LooksBy, combine_steps, read_steps, sees}

-- the schedule's step of the node n
abbrev pub step_of : ℕ → NodeStep → Step
step_of n Appends = Append n
step_of n Replays = Replay n
step_of n Finishes = Finish n
step_of n Reclaims = Reclaim n
step_of n Rebases = Rebase n
step_of n Replies = Reply n

-- the node of which that is seen, and at whose slots these reads were begun
abbrev pub node_of : Seen → List (Option BegunRead) → NodeView
node_of s reads = record { replica = s.own.replica; hand = s.own.hand; desk = s.desk; batch = s.batch; reads = reads }

-- from one log and node to another by these steps of the schedule, in this order, each of which may be taken then; others may do something
-- before each, and after the last
pub data InOrder (m : Opening) : Log → NodeView → List Step → Log → NodeView → Type 0 where
  Ends : (g : Log) (node : NodeView) → InOrder m g node [] g node
  Takes : (step : Step) (g h : Log) (node last : NodeView) (steps : List Step) (p : Part) → part_of m step g node ≡ Some p → InOrder m p.log p.node steps h last → InOrder m g node (step ∷ steps) h last
  Meets : (g f h : Log) (node other last : NodeView) (steps : List Step) → OthersDo m.catalogue (seen_of g node) (seen_of f other) → InOrder m f other steps h last → InOrder m g node steps h last

-- `InOrder`, but of what is seen of the node n
abbrev pub SeenInOrder : Opening → ℕ → List (Option BegunRead) → Seen → List NodeStep → Seen → Type 0
SeenInOrder m n reads s steps t = InOrder m s.log (node_of s reads) (map (step_of n) steps) t.log (node_of t reads)

-- a whole combine on a store with the catalogue of this opening, as store promises it: what its session knew, and knows after it; its batch
-- as it was claimed, and as it was answered
pub record WholeCombine (m : Opening) : Type 0 where
  pub k : SessionKnown
  pub same : m.catalogue ≡ k.progress.catalogue
  pub after : SessionKnown
  pub batch : BatchView
  pub answered : BatchView
  pub by : CombinesBy k after batch answered

-- the steps of a whole combine
abbrev pub CombinesInOrder : (m : Opening) → ℕ → List (Option BegunRead) → WholeCombine m → Type 0
CombinesInOrder m n reads w = let c = w.by in
    SeenInOrder m n reads (sees c.from c.log c.own (Held w.batch) c.desk) (combine_steps c.room c.up)
    (sees w.after.progress c.back c.left Absent (replied (answered_batch c.kept w.batch) c.desk))

-- the read of the slot s is answered so on that log and node
abbrev pub IsAnsweredThere : Opening → (n s : ℕ) → Log → NodeView → ReadAnswer → Type 0
IsAnsweredThere m n s g node answer = part_of m (Answers n s) g node ≡ Some (with_call_or_back (Back (session_of_slot node s) (ReadBack answer)) g (with_read node s None))

-- a whole look at a node's replica on a store with the catalogue of this opening, as store promises it of a read, of
-- several at one point and of a scan: what its session knew, and knows after it; and at which point of the history it
-- looks
pub record WholeLook (m : Opening) : Type 0 where
  pub k : SessionKnown
  pub same : m.catalogue ≡ k.progress.catalogue
  pub after : SessionKnown
  pub point : ℕ
  pub by : LooksBy k after point

-- what is seen where it begins, and where it answers, at this desk
abbrev pub look_from : {m : Opening} → WholeLook m → DeskView → Seen
look_from w d = let c = w.by in sees c.from c.log c.own Absent d

abbrev pub look_to : {m : Opening} → WholeLook m → DeskView → Seen
look_to w d = let c = w.by in sees w.after.progress c.back c.left Absent d

-- the steps of a whole look, and then the schedule's own answer to each read that was begun at the slot s, with the completed tail as
-- the call loaded it: the reply of there
pub record ReadsInOrder (m : Opening) (n s : ℕ) (reads : List (Option BegunRead)) (w : WholeLook m) (d : DeskView) : Type 0 where
  pub steps : SeenInOrder m n reads (look_from w d) (read_steps w.by.log w.by.own w.by.up) (look_to w d)
  pub answered : (call : Call) (reply : ℕ) → RepliesThere w.k.progress.catalogue (Run call) w.by.left reply
      → (let t = look_to w d in
      read_at (node_of t reads) s ≡ Some (record { call = call; seen = w.by.seen }) → IsAnsweredThere m n s t.log (node_of t reads) (record { point = w.point; reply = reply }))

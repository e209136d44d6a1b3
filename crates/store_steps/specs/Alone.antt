-- An update whose session finds no other request at its desk.
use Rattle.std.specs.Prelude.{◌≡◌, ℕ}
use Rattle.combiner.specs.Desks.{BatchView, only}
use Rattle.oplog.specs.Operations.{Operation}
use Rattle.oplog.specs.declared.records.Record.{Record}
use Rattle.ownlock.specs.Seats.{IsSession}
use Rattle.accounts.specs.declared.sessions.Pending.{Pending}
use Rattle.replica.specs.Views.{RepliesView}
use Rattle.store_steps.specs.declared.alone.Posted.{Posted}
use Rattle.store_steps.specs.declared.alone.Posted.TheVariants.{Claims, Turns}
use Rattle.store_steps.specs.declared.desks.Turn.{Turn}
use Rattle.store_steps.specs.declared.desks.Turn.TheVariants.{Combines}
use Rattle.store_steps.specs.declared.steps.Caller.{Caller}
use Rattle.store_steps.specs.declared.steps.Here.{Here}
use Rattle.store_steps.specs.declared.steps.Shared.{Shared}
use Rattle.store_steps.specs.AtOnce.{GivesAndTurns, MayHandOver, PostsAndTurns, SessionGives, StillWaits, Waited}
use Rattle.store_steps.specs.Combining.{HasAnswered, HasClaimed}
use Rattle.store_steps.specs.Knowing.{IsOn, Knows}
use Rattle.store_steps.specs.Requests.{HasPosted}
use Rattle.store_steps.specs.Standing.{IsFree, SessionKnown, StoreSeat}
use Rattle.store_steps.specs.Updating.{PostsBy}
use Rattle.store_steps.specs.Whole.{AnswersBy}

-- ---- its post

-- the turn of a session that posted, and the batch that it combines then: its own request alone, or the one that was
-- lent
abbrev pub turn_in : Posted → Turn
turn_in (Claims new) = Combines
turn_in (Turns turn) = turn

abbrev pub batch_in : BatchView → Posted → BatchView
batch_in batch (Claims new) = only new
batch_in batch (Turns turn) = batch

-- it has posted this operation, and did this then
abbrev pub SessionPosts : (old new : StoreSeat) → Operation → BatchView → Posted → Type 0
SessionPosts old new op batch posted = (k : SessionKnown) → IsSession old k
    → PostsAndTurns old new k op (batch_in batch posted) (turn_in posted)

-- what it claimed alone is its own
abbrev pub ClaimsOwn : SessionKnown → Posted → Type 0
ClaimsOwn k (Claims new) = new.author ≡ k.session
ClaimsOwn k (Turns turn) = Unit {0}

-- ---- what it does with its request

-- the seat is one session of this store, that of the caller's slot, which holds nothing, has claimed this request
-- alone, its own, and waits for its answer
abbrev pub MayCombine : StoreSeat → Caller → Shared → Record → Type 0
MayCombine s caller shared r =
    Knows s (λ k. IsFree caller k × HasClaimed k (only r) × IsOn shared k × (r.author ≡ k.session)
    × ((o : Pending) × StillWaits k o))

-- the seat may hand the answer of this record over, which is by its own session
abbrev pub MayReply : StoreSeat → Caller → Shared → Record → RepliesView → Type 0
MayReply s caller shared r kept = MayHandOver s caller shared (only r) kept
    × ((k : SessionKnown) → IsSession s k → r.author ≡ k.session)

-- it has handed it over, whichever record that is, and has had this turn
abbrev pub RepliesAndTurns : Here → (old new : StoreSeat) → RepliesView → BatchView → Turn → Type 0
RepliesAndTurns here old new kept batch turn =
    (r : Record) → MayReply old here.caller here.shared r kept
    → SessionGives here.caller.node old new (only r) kept batch turn

-- it has the answer of this request, has handed it over, and has had a turn then
pub record GoesAlone (node : ℕ) (new : StoreSeat) (k : SessionKnown) (o : Pending) (r : Record) (batch : BatchView)
    (turn : Turn) : Type 0 where
  pub kept : RepliesView
  pub answered : SessionKnown
  pub has : HasAnswered k answered (only r) kept
  pub answers : AnswersBy node k answered (only r) kept
  pub gives : GivesAndTurns node new answered o (only r) kept batch turn

-- so it has, whichever request it waits for
abbrev pub SessionGoes : (node : ℕ) (old new : StoreSeat) → Record → BatchView → Turn → Type 0
SessionGoes node old new r batch turn = (k : SessionKnown) (o : Pending) → IsSession old k → StillWaits k o
    → GoesAlone node new k o r batch turn

-- ---- both

-- the session has posted the operation, has waited, and has had this turn
pub record AsksSoFar (new : StoreSeat) (k : SessionKnown) (op : Operation) (batch : BatchView) (turn : Turn) : Type 0
  where
    pub asked : SessionKnown
    pub posted : HasPosted k asked op
    pub posts : PostsBy k asked op
    pub waits : Waited new asked posted.request batch turn

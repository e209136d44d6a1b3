-- A session at its node's desk while that is lent to it: what it may find there, and what its calls are.
use Rattle.std.specs.Prelude.{◌≡◌, ℕ, suc, ◌+◌, ◌<◌, ◌≤◌, ◌^◌, List, [], map, length, Some, None, IsSome, slice_get, true, false}
use Rattle.ownlock.specs.Seats.{At}
use Rattle.oplog.specs.declared.configuration.TheConstants.{ENDLESS}
use Rattle.oplog.specs.Operations.{Operation}
use Rattle.oplog.specs.Sessions.{session}
use Rattle.combiner.specs.Desks.{DeskView, BatchView, batch_of, claim_refusal, claimed, collected, has_combiner, has_request, only, replied}
use Rattle.oplog.specs.declared.records.Record.{Record}
use Rattle.combiner.specs.declared.slots.Reply.{Reply}
use Rattle.replica.specs.StoreMeaning.{store_meaning}
use Rattle.replica.specs.Views.{RepliesView}
use Rattle.node.specs.Answering.{answered_batch, HaveRun}
use Rattle.accounts.specs.declared.sessions.Pending.{Pending}
use Rattle.accounts.specs.declared.sessions.Claim.{Claim}
use Rattle.accounts.specs.declared.sessions.SessionNote.{SessionNote}
use Rattle.accounts.specs.Accounts.{Accounts, IsAllowed}
use Rattle.accounts.specs.Agreement.{DeskAgrees}
use Rattle.accounts.specs.Batches.{Ascend}
use Rattle.accounts.specs.DeskSteps.{DeskStep, Gives}
use Rattle.accounts.specs.Moves.{IsAtRest, answered_with, posted_with, record_of, unplaced}
use Rattle.accounts.specs.Told.{Tells}
use Rattle.store_steps.specs.declared.desks.Turn.{Turn}
use Rattle.store_steps.specs.declared.desks.Turn.TheVariants.{Collects, Combines, Waits}
use Rattle.store_steps.specs.Views.{request_of}
use Rattle.store_steps.specs.Standing.{SessionKnown}

-- the slot of this desk is the session's own, and the desk agrees with some notes, of which the session's is one
pub record IsAt (slot : ℕ) (k : SessionKnown) (x : DeskView) : Type 0 where
  pub notes : List SessionNote
  pub accounts : Accounts store_meaning k.progress notes
  pub here : At k.session k.note notes
  pub agrees : DeskAgrees store_meaning k.progress notes x
  pub own : k.session ≡ session k.progress.config x.node slot
  pub within : slot < k.progress.config.slots
  pub near : x.node < k.progress.config.nodes

-- the session waits for the answer to this request, and combines for nobody
pub record HasAsked (k : SessionKnown) (o : Pending) : Type 0 where
  pub pending : k.note.pending ≡ Some o
  pub alone : k.note.batch ≡ []
  pub few : suc (length k.note.answered) < 2 ^ 64

-- the session combines the requests of this batch, in whose order it notes them; of each that has a place the outcome was kept, and the answers
-- that these outcomes make are ones that the session may give
pub record IsReady (k : SessionKnown) (b : BatchView) (kept : RepliesView) : Type 0 where
  pub some : 0 < length k.note.batch
  pub records : b.records ≡ map record_of k.note.batch
  pub ascend : Ascend b.records
  pub within : kept.first + length kept.outcomes ≤ ENDLESS
  pub run : HaveRun kept b
  pub gives : (j : ℕ) (t : Claim) (reply : Reply) → At j t k.note.batch → slice_get (answered_batch kept b).answers j ≡ Some (Some reply)
      → Gives store_meaning k.progress t reply

-- the session may put the desk back as y, with the note n
abbrev pub Steps : SessionKnown → DeskView → SessionNote → DeskView → Type 0
Steps k x n y = DeskStep store_meaning k.progress k.session k.note x n y

-- the session waits for no answer, and the operation is an update of its catalogue
abbrev pub MayPost : SessionKnown → Operation → Type 0
MayPost k op = IsAtRest k.note × IsAllowed store_meaning k.progress.catalogue op

-- the session does so when it posts the operation, and notes that it waits for the answer
abbrev pub PostSteps : SessionKnown → Operation → DeskView → DeskView → Type 0
PostSteps k op x y = Steps k x (posted_with k.note (request_of k.progress op)) y

-- what a session did that looked for its answer: it collected the one that waits; else it claimed all posted requests, where nobody
-- combines, and the batch has them; else nothing, where nothing may be claimed
abbrev pub IsTurn : ℕ → DeskView → DeskView → BatchView → Turn → Type 0
IsTurn slot x y batch (Collects reply) = collected slot x ≡ Some (record { reply = reply; desk = y })
IsTurn slot x y batch Combines = (collected slot x ≡ None) × (has_combiner x ≡ false) × (has_request x ≡ true) × (y ≡ claimed x) × (batch ≡ batch_of x)
IsTurn slot x y batch Waits = (collected slot x ≡ None) × IsSome (claim_refusal x) × (y ≡ x)

-- the turn is a step of the session: what it collects it may say of its request, and the batch is by ascending authors
abbrev pub TurnSteps : SessionKnown → Pending → DeskView → DeskView → BatchView → Turn → Type 0
TurnSteps k o x y batch (Collects reply) = Steps k x (answered_with k.note o.op reply) y × Tells store_meaning k.progress k.session (length k.note.answered) o reply
TurnSteps k o x y batch Combines = Steps k x (record k.note { batch = unplaced batch.records }) y × Ascend batch.records
TurnSteps k o x y batch Waits = y ≡ x

-- what a claim is
abbrev pub IsClaim : DeskView → DeskView → BatchView → Turn → Type 0
IsClaim x y batch (Collects reply) = ⊥
IsClaim x y batch Combines = (has_combiner x ≡ false) × (has_request x ≡ true) × (y ≡ claimed x) × (batch ≡ batch_of x)
IsClaim x y batch Waits = IsSome (claim_refusal x) × (y ≡ x)

-- the lent batch changes only where the session combines
abbrev pub KeepsBatch : BatchView → BatchView → Turn → Type 0
KeepsBatch old new (Collects reply) = new ≡ old
KeepsBatch old new Combines = Unit {0}
KeepsBatch old new Waits = new ≡ old

-- the desk x is y once it has the answer of the session's own request alone, of which these outcomes were kept
abbrev pub IsRepliedTo : ℕ → (x y : DeskView) → RepliesView → Type 0
IsRepliedTo slot x y kept = (k : SessionKnown) (r : Record) → IsAt slot k x → r.author ≡ k.session
    → y ≡ replied (answered_batch kept (only r)) x

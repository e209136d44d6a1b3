-- An update by four takes whose session waits for nobody: what its post and claim leave, and of which deeds its calls are.
use Rattle.std.specs.Prelude.{◌≡◌, ◌≤◌, [], length}
use Rattle.oplog.specs.Operations.{Operation}
use Rattle.combiner.specs.Desks.{BatchView}
use Rattle.replica.specs.StoreMeaning.{store_meaning}
use Rattle.replica.specs.Views.{RepliesView}
use Rattle.accounts.specs.declared.sessions.Pending.{Pending}
use Rattle.accounts.specs.Accounts.{Extends, IsWellFormed}
use Rattle.accounts.specs.Moves.{posted_with}
use Rattle.store_steps.specs.declared.deeds.Deed.{Deed}
use Rattle.store_steps.specs.declared.deeds.Deed.TheVariants.{Busy, Went, Collected}
use Rattle.store_steps.specs.declared.deeds.Stage.{Stage}
use Rattle.store_steps.specs.declared.deeds.Stage.TheVariants.{Claimed}
use Rattle.store_steps.specs.declared.polling.Came.{Came}
use Rattle.store_steps.specs.declared.polling.Came.TheVariants.{Posted, Went as WentOn}
use Rattle.store_steps.specs.declared.desks.Turn.{Turn}
use Rattle.store_steps.specs.declared.steps.Caller.{Caller}
use Rattle.store_steps.specs.AtOnce.{FoundNoAnswer}
use Rattle.store_steps.specs.Stages.{HasGone, IsPolled}
use Rattle.store_steps.specs.Standing.{SessionKnown, StoreSeat}
use Rattle.store_steps.specs.Updating.{CollectsBy, Deeds, PostsBy, TurnsBy}
use Rattle.store_steps.specs.Views.{SessionView, known_of, session_view}
use Rattle.store_steps.specs.Visits.{TakesNext}

-- it waits for the answer to this operation, which it posted when the history was no shorter than it had known; it may have claimed a batch since
abbrev pub HasAskedFor : (old new : SessionView) → Operation → Type 0
HasAskedFor old new op =
    (o : Pending) × (o.op ≡ op) × (length old.progress.history ≤ o.seen) × (record new.note { batch = [] } ≡ record (posted_with old.note o) { batch = [] })

-- it posted this operation, and then did so many deeds
abbrev pub BeginsBy : SessionKnown → SessionKnown → Operation → Type 0
BeginsBy k after op = (m : SessionKnown) × PostsBy k m op × Deeds m after

-- In one hold of its desk the session posted this operation and had a turn: the very step after its post took the desk again. At its turn it claimed
-- the requests of its node as this batch, unless another session combined.
pub record BeginsInOneHold (k after : SessionKnown) (op : Operation) : Type 0 where
  pub asked : SessionKnown
  pub posts : PostsBy k asked op
  pub again : TakesNext asked asked after
  pub batch : BatchView
  pub turn : Turn
  pub turns : TurnsBy asked after batch turn
  pub fresh : FoundNoAnswer turn

-- what the post of an idle session leaves, by which steps, and what may stand between its calls then
pub record HasBegun (old new : StoreSeat) (caller : Caller) (op : Operation) (b : BatchView) (kept : RepliesView) (stage : Stage) : Type 0 where
  pub asked : HasAskedFor (session_view old) (session_view new) op
  pub goes : BeginsBy (known_of (session_view old)) (known_of (session_view new)) op
  pub session : (session_view new).session ≡ (session_view old).session
  pub extends : Extends (session_view old).progress (session_view new).progress
  pub well_formed : IsWellFormed store_meaning (session_view new).progress
  pub polled : IsPolled new caller b kept stage

-- ---- deeds in one call

-- so many deeds in one call; where it has its answer, that was collected last
abbrev pub DeedsGo : SessionKnown → SessionKnown → Deed → Type 0
DeedsGo k after Busy = Deeds k after
DeedsGo k after Went = Deeds k after
DeedsGo k after (Collected reply) = (m : SessionKnown) × Deeds k m × CollectsBy m after reply

-- the session posted this operation and claimed it alone in one hold of its desk, and then did so many deeds, up to this one
pub record AsksAndGoes (old new : StoreSeat) (caller : Caller) (op : Operation) (b : BatchView) (kept : RepliesView)
    (stage : Stage) (deed : Deed) : Type 0 where
  pub between : StoreSeat
  pub shelf : between.shelf ≡ old.shelf
  pub claimed : BatchView
  pub begun : (room : RepliesView) → HasBegun old between caller op claimed room Claimed
  pub held : BeginsInOneHold (known_of (session_view old)) (known_of (session_view between)) op
  pub gone : HasGone DeedsGo between new caller b kept stage deed

-- what an update has come to in the call that asked for it
abbrev pub HasCome : (old new : StoreSeat) → Caller → Operation → BatchView → RepliesView → Came → Type 0
HasCome old new caller op b kept (Posted stage) = HasBegun old new caller op b kept stage
    × BeginsInOneHold (known_of (session_view old)) (known_of (session_view new)) op
HasCome old new caller op b kept (WentOn stage deed) = AsksAndGoes old new caller op b kept stage deed

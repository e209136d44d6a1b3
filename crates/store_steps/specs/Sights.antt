-- A look at the replica of a session's node: what its answer says, and the steps that it is made of.
use Rattle.std.specs.Prelude.{◌≡◌, ℕ, ◌≤◌, ◌++◌, ◌∷◌, List, [], Option}
use Rattle.ownlock.specs.Seats.{tails_in}
use Rattle.loader.specs.CatalogueView.{CatalogueView}
use Rattle.loader.specs.StoreState.{StoreState}
use Rattle.oplog.specs.History.{state_after}
use Rattle.replica.specs.StoreMeaning.{store_meaning}
use Rattle.accounts.specs.declared.sessions.Progress.{Progress}
use Rattle.accounts.specs.Accounts.{Extends, IsWellFormed}
use Rattle.accounts.specs.ReadNotes.{looked_with}
use Rattle.oplog.specs.Operations.{Operation}
use Rattle.store_steps.specs.Knowing.{LearnsBy}
use Rattle.store_steps.specs.Standing.{SessionKnown, StoreSeat}
use Rattle.store_steps.specs.Whole.{LooksBy}

-- A look began when `begun` operations were completed. Its point is not below that, nor above the completed tail at its end, and P holds of the
-- state after the operations before that point.
abbrev pub SightTells : (CatalogueView → StoreState → Type 0) → Progress CatalogueView → (begun point : ℕ) → Type 0
SightTells P l begun point = (begun ≤ point) × (point ≤ l.completed) × P l.catalogue (state_after store_meaning l.catalogue l.history point)

-- the read that a look asks, if it asks one, and what it replies
pub record Heard : Type 0 where
  pub asked : Option Operation
  pub reply : ℕ

abbrev pub heard_by : {L : Type 0} → (L → Option Operation) → L → (reply : ℕ) → Heard
heard_by asks look reply = record { asked = asks look; reply = reply }

-- the session k has looked at its node's replica at this point, and is `after` then: it has read the completed tail, and the point is not below
-- that tail, nor below the completed tail that it knew before; and it has noted what it asked and heard
pub record HasSeen (h : Heard) (k after : SessionKnown) (point : ℕ) : Type 0 where
  pub begun : ℕ
  pub more : List ℕ
  pub read : tails_in after.steps ≡ tails_in k.steps ++ begun ∷ more
  pub reached : begun ≤ point
  pub far : k.progress.completed ≤ point
  pub session : after.session ≡ k.session
  pub held : after.held ≡ []
  pub note : after.note ≡ looked_with h.asked point h.reply k.note
  pub extends : Extends k.progress after.progress
  pub well_formed : IsWellFormed store_meaning after.progress

-- a session's look, of which P is so
abbrev pub HasSight : Heard → (CatalogueView → StoreState → Type 0) → (point : ℕ) → (k after : SessionKnown) → Type 0
HasSight h P point k after = HasSeen h k after point × SightTells P after.progress k.progress.completed point

-- the steps of a look: P holds of the state of the replica that the session put back
abbrev pub SightBy : (CatalogueView → StoreState → Type 0) → (point : ℕ) → (k after : SessionKnown) → Type 0
SightBy P point k after = (by : LooksBy k after point) × P k.progress.catalogue by.left.replica.state

-- the session of the seat has looked
abbrev pub SessionLooks : (old new : StoreSeat) → Heard → (CatalogueView → StoreState → Type 0) → (point : ℕ) → Type 0
SessionLooks old new h P point = LearnsBy old new (HasSight h P point) (SightBy P point)

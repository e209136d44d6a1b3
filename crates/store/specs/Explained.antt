-- One history explains what all sessions of a store did, once it is closed.
use Rattle.std.specs.Prelude.{ℕ, List}
use Rattle.ownlock.specs.Seats.{At}
use Rattle.accounts.specs.declared.sessions.AnsweredUpdate.{AnsweredUpdate}
use Rattle.promise.specs.Operations.{After}
use Rattle.store_steps.specs.Views.{SessionView}
use Rattle.store.specs.Linear.{Linearizes}
use Rattle.store.specs.Opening.{ClosedView, IsClosed, last_state}
use Rattle.store.specs.Sessions.{StoreView}
use Rattle.store_laws.specs.RunEvents.{IsTold}

-- The history of the closed store linearizes what its sessions noted: their updates and their reads. Its operations leave the store's last state. Each
-- update that a session noted as answered is among them.
pub record ClosesExplained (store : StoreView) (sessions : List SessionView) (closed : ClosedView) : Type 0 where
  pub is : IsClosed store sessions closed
  pub linear : Linearizes store sessions is.progress.history
  pub leaves : After store.catalogue is.progress.history (last_state closed)
  pub told : (a q : ℕ) (s : SessionView) (u : AnsweredUpdate) → At a s sessions → At q u s.note.answered → IsTold linear.trace s.session u

-- What is known of a session that is attached.
use Rattle.std.specs.Prelude.{◌≡◌, ℕ, ◌<◌}
use Rattle.store_steps.specs.Shelving.{sessions_of}
use Rattle.store_steps.specs.Views.{SessionView}
use Rattle.store.specs.Sessions.{StoreView}

-- a session, where it stands in the pool of its store, and that store
pub record AttachedView : Type 0 where
  pub store : StoreView
  pub place : ℕ
  pub session : SessionView

-- the same session of the same store
pub record IsSame (old new : AttachedView) : Type 0 where
  pub store : new.store ≡ old.store
  pub place : new.place ≡ old.place
  pub shelf : new.session.shelf ≡ old.session.shelf
  pub session : new.session.session ≡ old.session.session

-- the place is that of the session's number, of which its store has one
pub record IsPlaced (store : StoreView) (place : ℕ) (s : SessionView) : Type 0 where
  pub number : s.session ≡ place
  pub below : place < sessions_of store.config

-- Where the sessions of a lane are from.
use Rattle.std.specs.Prelude.{◌≡◌, ℕ, ◌≤◌, List, [], ◌∷◌, length}
use Rattle.std.specs.Arc.{arc_value}
use Rattle.ownlock.specs.Seats.{At}
use Rattle.store.specs.Opening.{AreOf}
use Rattle.store_steps.specs.Views.{SessionView}
use Rattle.host_calls.specs.declared.lanes.Home.{Home}
use Rattle.host_calls.specs.Views.{AttachedView, IsPlaced}

-- a session with its store and its place
abbrev pub attached_at : Home → SessionView → AttachedView
attached_at h s = record { store = arc_value h.store; place = h.place; session = s }

-- the sessions, each with its store and its place
abbrev pub attached_of : List Home → List SessionView → List AttachedView
attached_of [] sessions = []
attached_of (h ∷ homes) [] = []
attached_of (h ∷ homes) (s ∷ sessions) = attached_at h s ∷ attached_of homes sessions

-- each session has a home, at its own place there, and there are at most sixteen. All are of one store
pub record AreAtHome (homes : List Home) (sessions : List SessionView) : Type 0 where
  pub count : length homes ≡ length sessions
  pub few : length homes ≤ 16
  pub own : (i : ℕ) (g : Home) → At i g homes → AreOf (arc_value g.store) sessions
  pub one : (i j : ℕ) (g h : Home) → At i g homes → At j h homes → arc_value g.store ≡ arc_value h.store
  pub placed : (i : ℕ) (g : Home) (s : SessionView) → At i g homes → At i s sessions
      → IsPlaced (arc_value g.store) g.place s

-- What a store leaves that is closed into the state that it ends in.
use Rattle.std.specs.Prelude.{◌≡◌, ◌⊎◌, ℕ, ◌++◌, List, [], ◌∷◌, Bool, true, false, None, Some, Option, MatchOption, is_some}
use Rattle.std.specs.List.{list_all}
use Rattle.std.specs.Arc.{arc_value}
use Rattle.loader.specs.StoreState.{StoreState}
use Rattle.store.specs.Explained.{ClosesExplained}
use Rattle.store.specs.Opening.{ClosedView, last_state}
use Rattle.store_steps.specs.Views.{SessionView}
use Rattle.store.specs.Sessions.{StoreView}
use Rattle.host_calls.specs.declared.attached.Attached.{Attached}
use Rattle.host_calls.specs.declared.handles.StateAnswered.{StateAnswered}
use Rattle.host_calls.specs.declared.handles.StateHandle.{StateHandle}
use Rattle.host_calls.specs.declared.handles.StoreHandle.{StoreHandle}
use Rattle.host_calls.specs.declared.pool.Pool.{Pool}
use Rattle.host_calls.specs.Statuses.{done, is_attached, no_memory, not_open, not_ours}
use Rattle.host_calls.specs.Stores.{IsStatusAlone}

-- ---- the state

-- the session at a place
abbrev pub sessions_at : Option Attached → List SessionView
sessions_at None = []
sessions_at (Some a) = a.session ∷ []

-- the sessions at places, the last first
abbrev pub sessions_back : List (Option Attached) → List SessionView
sessions_back [] = []
sessions_back (p ∷ ps) = sessions_back ps ++ sessions_at p

-- the state after the whole history of a store whose sessions are these: one list of operations explains their calls
abbrev pub IsLastOf : StoreView → List SessionView → StoreState → Type 0
IsLastOf store sessions state =
    (closed : ClosedView) × ClosesExplained store sessions closed × (state ≡ last_state closed)

-- the words of a state's handle with this status, and nothing else
abbrev pub only_state : ℕ → StateAnswered
only_state status = record { status = status; line = 0; inner = 0; slot = 0 }

-- ---- closing

-- there is no state: for want of memory, and the store is as it was; or the store is ended, and another still has a part of it, so that no state is
-- given
abbrev pub LeavesNone : (before left : StoreHandle) → Type 0
LeavesNone before left = ((left.own ≡ before.own) × (left.answered.status ≡ no_memory)) ⊎ ((left.own ≡ None) × (left.answered.status ≡ not_ours))

-- the store is ended, and this is the state that it ends in
abbrev pub LeavesState : Pool → StoreHandle → StoreState → Type 0
LeavesState p left state = (left.own ≡ None) × (left.answered.status ≡ done) × IsLastOf (arc_value p.store) (sessions_back p.places.items) state

-- of an open store: by whether all its sessions are back
abbrev pub LeavesIf : Bool → Pool → (before left : StoreHandle) → StateHandle → Type 0
LeavesIf true p before left given = MatchOption given.own (LeavesNone before left) (LeavesState p left)
LeavesIf false p before left given = (given.own ≡ None) × (left.own ≡ before.own) × (left.answered.status ≡ is_attached)

pub record Leaves (before left : StoreHandle) (given : StateHandle) : Type 0 where
  pub asked : left.asked ≡ before.asked
  pub answered : IsStatusAlone before.answered left.answered
  pub words : given.answered ≡ only_state left.answered.status
  pub leaves : MatchOption before.own ((given.own ≡ None) × (left.own ≡ None) × (left.answered.status ≡ not_open))
      (λ b. LeavesIf (list_all is_some b.value.places.items) b.value before left given)

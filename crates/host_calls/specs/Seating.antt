-- The sessions that stand at the places of a pool.
use Rattle.std.specs.Prelude.{◌≡◌, ℕ, List, None, Some, Option, IfSome, All, get_or, length}
use Rattle.store.specs.Sessions.{StoreView}
use Rattle.store_steps.specs.Shelving.{sessions_of}
use Rattle.host_calls.specs.declared.attached.Attached.{Attached}

-- the session at this place, if it isn't attached, is one of this store
abbrev pub IsSeatOf : StoreView → Option Attached → Type 0
IsSeatOf store place = IfSome place (λ a. a.store ≡ store)

-- and no update of it is out
abbrev pub IsIdleSeat : Option Attached → Type 0
IsIdleSeat place = IfSome place (λ a. a.session.note.pending ≡ None)

-- as many places as the store has sessions, at which only these stand, each at its own, and no update of theirs is out
pub record AreInOrder (store : StoreView) (places : List (Option Attached)) : Type 0 where
  pub count : length places ≡ sessions_of store.config
  pub own : All (IsSeatOf store) places
  pub idle : All IsIdleSeat places
  pub placed : (k : ℕ) (a : Attached) → get_or places k None ≡ Some a → a.place ≡ k

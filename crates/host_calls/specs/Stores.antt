-- What a call on a store's handle tells.
use Rattle.std.specs.Prelude.{◌≡◌, ℕ, ◌<◌, ◌≤◌, ◌/◌, Result, Ok, Err, Bool, true, false, None, Some, Option, IfSome, MatchOption, length, get_or, set, take, is_some}
use Rattle.std.specs.List.{list_all}
use Rattle.std.specs.Arc.{arc_value}
use Rattle.std.specs.Str.{IsUtf8}
use Rattle.std.specs.declared.alloc.Global.{Global}
use Rattle.std.specs.declared.boxed.Box.{Box}
use Rattle.loader.specs.CatalogueView.{number_named}
use Rattle.host_calls.specs.declared.attached.Attached.{Attached}
use Rattle.host_calls.specs.declared.handles.StoreAnswered.{StoreAnswered}
use Rattle.host_calls.specs.declared.handles.StoreHandle.{StoreHandle}
use Rattle.host_calls.specs.declared.handles.SessionHandle.{SessionHandle}
use Rattle.host_calls.specs.declared.handles.TheConstants.{NAME_ROOM}
use Rattle.host_calls.specs.declared.pool.Pool.{Pool}
use Rattle.host_calls.specs.Statuses.{done, is_attached, is_out, no_program, no_session, no_text, not_open}
use Rattle.host_calls.specs.Words.{HasNewWords}

-- ---- the pool of a store

-- the session at this place, if it isn't attached
abbrev pub seated : Pool → ℕ → Option Attached
seated p k = get_or p.places.items k None

-- the place is one of this node
abbrev pub IsOfNode : Pool → ℕ → ℕ → Type 0
IsOfNode p node k = (k < length p.places.items) × (0 < p.slots) × (k / p.slots ≡ node)

-- all sessions of the node are attached
abbrev pub NoneIsFree : Pool → ℕ → Type 0
NoneIsFree p node = (k : ℕ) → IsOfNode p node k → seated p k ≡ None

-- all sessions of the node before this place are attached
abbrev pub NoneIsFreeBefore : Pool → (node place : ℕ) → Type 0
NoneIsFreeBefore p node place = (k : ℕ) → k < place → IsOfNode p node k → seated p k ≡ None

-- the pool has the same store, and as many sessions a node
abbrev pub IsKept : (p q : Pool) → Type 0
IsKept p q = (q.store ≡ p.store) × (q.slots ≡ p.slots)

-- nothing is taken or given
abbrev pub IsUnmoved : (p q : Pool) → Type 0
IsUnmoved p q = q.places.items ≡ p.places.items

-- the session stood at a place of the node, the first of those at which one stood; it is empty now
abbrev pub IsTaken : (p q : Pool) → ℕ → Attached → Type 0
IsTaken p q node a = (k : ℕ) × IsOfNode p node k × NoneIsFreeBefore p node k × (seated p k ≡ Some a) × (q.places.items ≡ set p.places.items k None)

-- the place of the session was there and empty, and it stands there again
abbrev pub IsGiven : (p q : Pool) → Attached → Type 0
IsGiven p q a =
    (a.place < length p.places.items) × (seated p a.place ≡ None) × (q.places.items ≡ set p.places.items a.place (Some a))

-- of the words that are answered, none but the status is another
abbrev pub IsStatusAlone : (before after : StoreAnswered) → Type 0
IsStatusAlone before after = after ≡ record before { status = after.status }

-- ---- attach

-- both handles have this status
abbrev pub AreAnswered : StoreHandle → SessionHandle → ℕ → Type 0
AreAnswered after given status = (after.answered.status ≡ status) × (given.answered.status ≡ status)

-- of an open store: a session of the node if one is free, else a closed handle
abbrev pub GivesFrom : (p q : Pool) → ℕ → StoreHandle → SessionHandle → Type 0
GivesFrom p q node after given =
    IsKept p q × MatchOption given.own (NoneIsFree p node × IsUnmoved p q × AreAnswered after given no_session) (λ a. IsTaken p q node a × AreAnswered after given done)

pub record Gives (before after : StoreHandle) (given : SessionHandle) : Type 0 where
  pub asked : after.asked ≡ before.asked
  pub answered : IsStatusAlone before.answered after.answered
  pub words : HasNewWords given after.answered.status
  pub gives : MatchOption before.own ((after.own ≡ None) × (given.own ≡ None) × AreAnswered after given not_open)
      (λ b. MatchOption after.own ⊥ (λ b'. GivesFrom b.value b'.value before.asked.node after given))

-- ---- detach

-- the session at this handle, if there is one, is of the store at that
abbrev pub IsItsOwn : StoreHandle → SessionHandle → Type 0
IsItsOwn h session = IfSome h.own (λ b. IfSome session.own (λ a. a.store ≡ arc_value b.value.store))

-- the session stays at its handle, for this reason
abbrev pub Stays : (p q : Pool) → StoreHandle → (session left : SessionHandle) → ℕ → Type 0
Stays p q after session left status = IsUnmoved p q × (left ≡ session) × (after.answered.status ≡ status)

-- of a session for which nothing is out: it is back, and its handle is closed
abbrev pub GoesBack : (p q : Pool) → Attached → StoreHandle → (session left : SessionHandle) → Type 0
GoesBack p q a after session left =
    IsGiven p q a × (left ≡ record session { own = None }) × (after.answered.status ≡ done)

abbrev pub TakesInto : (p q : Pool) → StoreHandle → (session left : SessionHandle) → Type 0
TakesInto p q after session left =
    IsKept p q × MatchOption session.own (Stays p q after session left not_open)
    (λ a. MatchOption a.session.note.pending (GoesBack p q a after session left) (λ o. Stays p q after session left is_out))

pub record Takes (before : StoreHandle) (session : SessionHandle) (after : StoreHandle) (left : SessionHandle) : Type 0 where
  pub asked : after.asked ≡ before.asked
  pub answered : IsStatusAlone before.answered after.answered
  pub takes : MatchOption before.own ((after.own ≡ None) × (left ≡ session) × (after.answered.status ≡ not_open))
      (λ b. MatchOption after.own ⊥ (λ b'. TakesInto b.value b'.value after session left))

-- ---- close

-- of an open store: by whether all its sessions are back, it is closed, or nothing has changed
abbrev pub ClosesIf : Bool → (before left : StoreHandle) → Type 0
ClosesIf true before left = (left.own ≡ None) × (left.answered.status ≡ done)
ClosesIf false before left = (left.own ≡ before.own) × (left.answered.status ≡ is_attached)

pub record Closes (before left : StoreHandle) : Type 0 where
  pub asked : left.asked ≡ before.asked
  pub answered : IsStatusAlone before.answered left.answered
  pub closes : MatchOption before.own ((left.own ≡ None) × (left.answered.status ≡ not_open)) (λ b. ClosesIf (list_all is_some b.value.places.items) before left)

-- ---- number

-- what is found: the number of the program of that name in an open store, or the status that says why there is none
pub record IsNumber (h : StoreHandle) (found : Result ℕ ℕ) : Type 0 where
  pub closed : h.own ≡ None → found ≡ Err not_open
  pub longer : (b : Box Pool Global) → h.own ≡ Some b → NAME_ROOM < h.asked.length → found ≡ Err no_program
  pub unclear : (b : Box Pool Global) → h.own ≡ Some b → h.asked.length ≤ NAME_ROOM
      → (IsUtf8 (take h.asked.length h.asked.name) → ⊥) → found ≡ Err no_text
  pub named : (b : Box Pool Global) → h.own ≡ Some b → h.asked.length ≤ NAME_ROOM
      → IsUtf8 (take h.asked.length h.asked.name)
      → MatchOption (number_named (arc_value b.value.store).catalogue.programs (take h.asked.length h.asked.name)) (found ≡ Err no_program) (λ n. found ≡ Ok n)

-- the words with what is found: without a number that one stays which stood there
abbrev pub with_number : StoreAnswered → Result ℕ ℕ → StoreAnswered
with_number before (Ok n) = record before { status = done; number = n }
with_number before (Err status) = record before { status = status }

pub record Finds (before after : StoreHandle) : Type 0 where
  pub own : after.own ≡ before.own
  pub asked : after.asked ≡ before.asked
  pub found : Result ℕ ℕ
  pub is_number : IsNumber before found
  pub answered : after.answered ≡ with_number before.answered found

-- How a list, the sum that follows it, and the notes of who appends fit together.
use Rattle.std.specs.Prelude.{◌≡◌, ◌≢◌, ℕ, ◌+◌, ◌-◌, ◌%◌, ◌^◌, ◌<◌, ◌≤◌, max, List, [], ◌∷◌, ◌++◌, length, take, Result, MatchResult}
use Rattle.ownlock.specs.declared.known.Known.{Known}
use Rattle.ownlock.specs.Seats.{SeatView, IsSession}
use Rattle.ownlock.specs.Rules.{Rules}
use Rattle.example_sums.specs.declared.kinds.Progress.{Progress}
use Rattle.example_sums.specs.declared.kinds.Value.{Value}
use Rattle.example_sums.specs.declared.kinds.Value.TheVariants.{List as TheList, Sum}

-- the sum, which wraps nowhere
abbrev pub total : List ℕ → ℕ
total [] = 0
total (x ∷ xs) = x + total xs

abbrev pub empty_progress : Progress
empty_progress = record { items = []; completed = 0 }

-- ys are xs and then others
abbrev pub StartsWith : List ℕ → List ℕ → Type 0
StartsWith xs ys = (more : List ℕ) × (ys ≡ xs ++ more)

abbrev pub AgreesWith : ℕ → Progress → List ℕ → Value → Type 0
AgreesWith p l notes (TheList x) = (p ≡ 0) × (x.items.items ≡ l.items)
AgreesWith p l notes (Sum x) = (p ≢ 0) × (x.tail ≤ l.completed) × (x.sum ≡ total (take x.tail l.items) % 2 ^ 64)

-- the list is as long as all notes together
abbrev pub Accounts : Progress → List ℕ → Type 0
Accounts l notes = (length l.items ≡ total notes) × (l.completed ≤ length l.items)

-- who holds the list appends to it, and counts that; who holds the sum changes neither progress nor note
abbrev pub Moves : ℕ → Progress → ℕ → Progress → ℕ → Type 0
Moves p l n l' n' = (more : List ℕ) × (l'.items ≡ l.items ++ more) × (l'.completed ≡ l.completed) × (n' ≡ n + length more) × (p ≢ 0 → (l' ≡ l) × (n' ≡ n))

-- the progress, all of whose first n numbers are completed
abbrev pub raised : Progress → ℕ → Progress
raised l n = record { items = l.items; completed = max l.completed n }

abbrev pub sum_rules : Rules Progress ℕ Value
sum_rules = record {
  Extends = λ a b. StartsWith a.items b.items × (a.completed ≤ b.completed);
  SameHistory = λ a b. a.items ≡ b.items;
  Accounts = Accounts;
  AgreesWith = AgreesWith;
  Allows = λ _ _ _. Unit {0};
  Moves = λ p _ _ l n l' n'. Moves p l n l' n';
  Asks = λ _ _ n n'. n' ≡ n;
  completed = λ l. l.completed;
  raised = raised;
  Reaches = λ l n. n ≤ length l.items;
}

abbrev pub IsList : Value → Type 0
IsList (TheList x) = Unit {0}
IsList (Sum x) = ⊥

abbrev pub IsSum : Value → Type 0
IsSum (TheList x) = ⊥
IsSum (Sum x) = Unit {0}

-- the progress once this value is back
abbrev pub moved_progress : Value → Progress → Progress
moved_progress (TheList x) l = record { items = x.items.items; completed = l.completed }
moved_progress (Sum x) l = l

abbrev pub items_of : Value → List ℕ
items_of (TheList x) = x.items.items
items_of (Sum x) = []

abbrev pub items_last_known : List (Known Progress ℕ Value) → List ℕ
items_last_known [] = []
items_last_known (k ∷ ks) = k.progress.items

-- the note, once the session that knows this has put the value back
abbrev pub counted : List (Known Progress ℕ Value) → Value → ℕ → ℕ
counted known value n = n + (length (items_of value) - length (items_last_known known))

-- the list, with more behind it
abbrev pub IsExtended : Value → Value → List ℕ → Type 0
IsExtended (TheList x) (TheList y) more = y.items.items ≡ x.items.items ++ more
IsExtended _ _ more = ⊥

-- the second is the sum of the first numbers of the list
abbrev pub Follows : Value → Value → Type 0
Follows (TheList x) (Sum y) = (y.tail ≤ length x.items.items) × (y.sum ≡ total (take y.tail x.items.items) % 2 ^ 64)
Follows _ _ = ⊥

-- the second is the sum of all numbers of the list
abbrev pub CaughtUp : Value → Value → Type 0
CaughtUp (TheList x) (Sum y) = (y.tail ≡ length x.items.items) × (y.sum ≡ total x.items.items % 2 ^ 64)
CaughtUp _ _ = ⊥

-- the tail and the sum of the follower
abbrev pub IsTold : Value → ℕ → ℕ → Type 0
IsTold (TheList x) tail sum = ⊥
IsTold (Sum x) tail sum = (tail ≡ x.tail) × (sum ≡ x.sum)

-- the item is in the list, behind all that was known, and completed, and this is the sum of the numbers up to it
abbrev pub IsAppended : List ℕ → ℕ → Progress → ℕ → Type 0
IsAppended known item l sum = (before more : List ℕ) × StartsWith known before × (l.items ≡ before ++ item ∷ more) × (length before < l.completed) × (sum ≡ total (before ++ item ∷ []) % 2 ^ 64)

-- the session after, which holds no place, is the session k once it has appended the item and counted it, and told the sum; or, where
-- there was no memory, once it has counted nothing
abbrev pub HasAppended : {E : Type 0} → Known Progress ℕ Value → ℕ → Result ℕ E → Known Progress ℕ Value → Type 0
HasAppended k item told after =
    (after.session ≡ k.session) × (after.held ≡ [])
    × MatchResult told (λ sum. (after.note ≡ k.note + 1) × IsAppended k.progress.items item after.progress sum) (λ _. after.note ≡ k.note)

-- what an append of the item tells the session
abbrev pub Appends : {E : Type 0} → SeatView Progress ℕ Value → ℕ → Result ℕ E → SeatView Progress ℕ Value → Type 0
Appends before item told now = (k : Known Progress ℕ Value) → IsSession before k → (after : Known Progress ℕ Value) × IsSession now after × HasAppended k item told after

-- the seat is one session, which holds no place
abbrev pub IsIdle : SeatView Progress ℕ Value → Type 0
IsIdle s = (k : Known Progress ℕ Value) × IsSession s k × (k.held ≡ [])

-- the seat is the session k still, which holds no place and has counted so many more
abbrev pub Counted : SeatView Progress ℕ Value → Known Progress ℕ Value → ℕ → Type 0
Counted s k count = (after : Known Progress ℕ Value) × IsSession s after × (after.session ≡ k.session) × (after.held ≡ []) × (after.note ≡ k.note + count)

-- a session at the start
abbrev pub fresh : ℕ → Known Progress ℕ Value
fresh i = record { session = i; progress = empty_progress; note = 0; held = []; steps = []; run = [] }

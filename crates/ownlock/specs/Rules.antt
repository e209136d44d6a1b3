-- What the values of a shelf have to do with the progress that all sessions see, and with the sessions' notes.
use Rattle.std.specs.Prelude.{◌≡◌, ◌≢◌, ℕ, max, ◌⊎◌, List, [], ◌∷◌, slice_set}
use Rattle.ownlock.specs.Seats.{At}

-- the place of the value that leads: nothing but its put adds to the history
abbrev pub leader : ℕ
leader = 0

-- the places qs are some of the places ps, in their order
abbrev pub IsPart : List ℕ → List ℕ → Type 0
IsPart [] ps = Unit {0}
IsPart (q ∷ qs) [] = ⊥
IsPart (q ∷ qs) (p ∷ ps) = ((q ≡ p) × IsPart qs ps) ⊎ IsPart (q ∷ qs) ps

-- P is the progress of all sessions, N the note of one, V a value of any kind
pub record Rules (P N V : Type 0) : Type 1 where
  -- the second progress has grown from the first
  pub Extends : P → P → Type 0
  -- both have one history
  pub SameHistory : P → P → Type 0
  -- the progress fits the notes of all sessions, where the i-th note is the i-th session's
  pub Accounts : P → List N → Type 0
  -- the value fits the progress and the notes, at that place
  pub AgreesWith : ℕ → P → List N → V → Type 0
  -- under that progress the session may hold these places at once, the one taken last first
  pub Allows : P → ℕ → List ℕ → Type 0
  -- the session that took the value at the place may go from the progress and its own note to another progress and note
  pub Moves : ℕ → ℕ → V → P → N → P → N → Type 0
  -- a session that loads the completed tail may go from its own note to another
  pub Asks : ℕ → P → N → N → Type 0
  -- the completed tail, the progress whose completed tail is raised to at least n, and whether the history has at least n entries
  pub completed : P → ℕ
  pub raised : P → ℕ → P
  pub Reaches : P → ℕ → Type 0

-- A session that took the value at the place moves, as the rules allow: from the progress and its own note to new ones.
pub record Move {P N V : Type 0} (R : Rules P N V) : Type 0 where
  pub place : ℕ
  pub session : ℕ
  pub value : V
  pub progress : P
  pub new_progress : P
  pub note : N
  pub new_note : N
  pub allowed : R.Moves place session value progress note new_progress new_note

module _ {P N V : Type 0} {R : Rules P N V} (m : Move R) (notes : List N) where
  -- the move is made among these notes: its progress accounts for them, the session's own is there, and the value agrees
  pub record IsAmong : Type 0 where
    pub accounts : R.Accounts m.progress notes
    pub own : At m.session m.note notes
    pub agrees : R.AgreesWith m.place m.progress notes m.value

  -- the notes after it
  abbrev pub new_notes : List N
  new_notes = slice_set notes m.session m.new_note

-- What has to hold of the rules.
pub record Laws {P N V : Type 0} (R : Rules P N V) : Type 0 where
  pub extends_self : (l : P) → R.Extends l l
  pub extends_on : (a b c : P) → R.Extends a b → R.Extends b c → R.Extends a c
  pub same_self : (l : P) → R.SameHistory l l
  pub same_on : (a b c : P) → R.SameHistory a b → R.SameHistory b c → R.SameHistory a c
  pub allows_none : (l : P) (i : ℕ) → R.Allows l i []
  pub allows_part : (l : P) (i : ℕ) (qs ps : List ℕ) → IsPart qs ps → R.Allows l i ps → R.Allows l i qs
  pub allows_on : (a b : P) (i : ℕ) (ps : List ℕ) → R.Extends a b → R.Allows a i ps → R.Allows b i ps
  pub moves_extend : (m : Move R) → R.Extends m.progress m.new_progress
  -- nothing but the leader's put adds to the history
  pub moves_same : (m : Move R) → m.place ≢ leader → R.SameHistory m.progress m.new_progress
  -- no put changes the completed tail
  pub moves_completed : (m : Move R) → R.completed m.new_progress ≡ R.completed m.progress
  -- a move keeps the account, and the agreement of each value of another place, on its shelf or as a session took it
  pub moves_account : (m : Move R) (notes : List N) → IsAmong m notes → R.Accounts m.new_progress (new_notes m notes)
  pub moves_others : (m : Move R) (notes : List N) → IsAmong m notes → (q : ℕ) (y : V) → q ≢ m.place → R.AgreesWith q m.progress notes y → R.AgreesWith q m.new_progress (new_notes m notes) y
  -- a note that changes at a load keeps the account, and the agreement of each value
  pub asks_account : (c : ℕ) (l : P) (n n' : N) (ns : List N) → R.Asks c l n n' → At c n ns → R.Accounts l ns → R.Accounts l (slice_set ns c n')
  pub asks_agrees : (p : ℕ) (x : V) (c : ℕ) (l : P) (n n' : N) (ns : List N) → R.Asks c l n n' → At c n ns → R.Accounts l ns → R.AgreesWith p l ns x → R.AgreesWith p l (slice_set ns c n') x
  -- a raise makes the completed tail the greater of the two, and adds nothing to the history
  pub raised_completed : (l : P) (n : ℕ) → R.completed (R.raised l n) ≡ max (R.completed l) n
  pub raised_extends : (l : P) (n : ℕ) → R.Extends l (R.raised l n)
  pub raised_same : (l : P) (n : ℕ) → R.SameHistory l (R.raised l n)
  -- a raise to no more than the history's length keeps the account, and the agreement of each value
  pub raised_account : (l : P) (n : ℕ) (ns : List N) → R.Reaches l n → R.Accounts l ns → R.Accounts (R.raised l n) ns
  pub raised_agrees : (p : ℕ) (x : V) (l : P) (n : ℕ) (ns : List N) → R.Reaches l n → R.Accounts l ns → R.AgreesWith p l ns x → R.AgreesWith p (R.raised l n) ns x
  -- a history that grows reaches as far as before
  pub reaches_on : (a b : P) (n : ℕ) → R.Extends a b → R.Reaches a n → R.Reaches b n

-- What a session may rely on, what take tells it, and what it owes to put.
use Rattle.std.specs.Prelude.{◌≡◌, ℕ, ◌<◌, max, List, [], ◌∷◌, ◌++◌, map, length, slice_set, Option, Some}
use Rattle.ownlock.specs.declared.known.Known.{Known}
use Rattle.ownlock.specs.declared.known.ShelfStep.TheVariants.{Took, Put, Read, Raised}
use Rattle.ownlock.specs.Rules.{Rules, leader}
use Rattle.ownlock.specs.Runs.{Runs}
use Rattle.ownlock.specs.Seats.{At, View, SeatView, Opened, Run, Continues, Adds, EndsWithOwn, run_of, own_steps, IsSession, IsNotHeld, place_of, holding, left_with, HoldsNone, TookNext, having_raised, having_read}

module _ {P N V : Type 0} (R : Rules P N V) where
  -- the values that these places had when they were taken agree
  abbrev pub HeldAgree : P → List N → List (ℕ × V) → Type 0
  HeldAgree progress notes held = (i : ℕ) (u : ℕ × V) → At i u held → R.AgreesWith u.0 progress notes u.1

  -- a progress that has grown from the one that the session knows, with the same history where the session holds the leader
  abbrev pub Later : Known P N V → P → Type 0
  Later k progress = R.Extends k.progress progress × ((i : ℕ) (u : ℕ × V) → At i u k.held → u.0 ≡ leader → R.SameHistory k.progress progress)

  -- the progress and the notes of all, as the session k may find them
  abbrev pub Possible : Known P N V → P → List N → Type 0
  Possible k progress notes = Later k progress × At k.session k.note notes × R.Accounts progress notes × HeldAgree progress notes k.held

  -- the session k may take the place
  abbrev pub MayTake : ℕ → Known P N V → Type 0
  MayTake p k = IsNotHeld p k.held × R.Allows k.progress k.session (p ∷ map place_of k.held)

  -- the session k has become after, which holds the place with the value x, and knows a progress that x agrees with
  abbrev pub Acquired : ℕ → Known P N V → Known P N V → V → Type 0
  Acquired p k after x =
      (progress : P) × (after ≡ holding k progress p x after.run) × Later k progress × ((notes : List N) × Possible after progress notes)
      × Adds k (Took p x) progress k.note after.run

  -- at this progress and these notes the session k may change the value at the place p from x to y: the move is allowed, and y agrees after it
  abbrev pub MayChange : (P → P) → (N → N) → Known P N V → ℕ → V → V → P → List N → Type 0
  MayChange grown noted k p x y progress notes =
      R.Moves p k.session x progress k.note (grown progress) (noted k.note)
      × R.AgreesWith p (grown progress) (slice_set notes k.session (noted k.note)) y

  -- the session k holds the place p, where it took some x, and may put y back: wherever the others are by then, it may change x to y
  abbrev pub MayPut : (P → P) → (N → N) → Known P N V → ℕ → V → Type 0
  MayPut grown noted k p y =
      (x : V) × (a : ℕ) × At a (p, x) k.held
      × ((progress : P) (notes : List N) → Possible k progress notes → MayChange grown noted k p x y progress notes)

  -- the session may find this progress, with some notes
  abbrev pub MayFind : Known P N V → P → Type 0
  MayFind k progress = (notes : List N) × Possible k progress notes

  -- what a take of the place p tells the session that takes the value x there
  abbrev pub Takes : SeatView P N V → ℕ → V → SeatView P N V → Type 0
  Takes before p x now = (k : Known P N V) → IsSession before k → (after : Known P N V) × Acquired p k after x × IsSession now after

  -- what a put of the value y at the place p tells the session: it has left the place, with the progress and the note that the put made
  abbrev pub Puts : (P → P) → (N → N) → SeatView P N V → ℕ → V → SeatView P N V → Type 0
  Puts grown noted before p y now = (k : Known P N V) → IsSession before k
      → (progress : P) × MayFind k progress × IsSession now (left_with k p y (grown progress) (noted k.note) (run_of now.sessions))
      × Adds k (Put p y) (grown progress) (noted k.note) (run_of now.sessions)

  -- what it tells the session to settle the value y at the place p: it has put it back, with the progress and the note that the put made, and has
  -- taken it again at once
  abbrev pub Settles : (P → P) → (N → N) → SeatView P N V → ℕ → V → SeatView P N V → Type 0
  Settles grown noted before p y now = (k : Known P N V) → IsSession before k
      → (progress : P) × MayFind k progress × ((run : Run P N V) × Adds k (Put p y) (grown progress) (noted k.note) run
      × ((after : Known P N V) × Acquired p (left_with k p y (grown progress) (noted k.note) run) after y × IsSession now after × TookNext run p y after))

  -- the session k holds the place p alone, the others of its seat hold nothing, and the next, m, may hold that place
  abbrev pub MayHandOn : ℕ → Known P N V → Known P N V → View P N V → Type 0
  MayHandOn p k m ms = (x : V) × (k.held ≡ (p, x) ∷ []) × HoldsNone (m ∷ ms) × R.Allows m.progress m.session (p ∷ [])

  -- what it tells a seat to hand the place p on with the value y: its first session has put that back, with the progress and the note that the
  -- put made, and the next one has taken it at once
  abbrev pub HandsOn : (P → P) → (N → N) → SeatView P N V → ℕ → V → SeatView P N V → Type 0
  HandsOn grown noted before p y now = (k m : Known P N V) (ms : View P N V) → before.sessions ≡ k ∷ m ∷ ms
      → (progress : P) × MayFind k progress × ((run : Run P N V) × Adds k (Put p y) (grown progress) (noted k.note) run
      × ((after : Known P N V) × Acquired p m after y × TookNext run p y after
      × (now.sessions ≡ after ∷ (ms ++ left_with k p y (grown progress) (noted k.note) run ∷ []))))

  -- whatever completed tail the session k finds, it may go to this note
  abbrev pub MayAsk : (ℕ → N → N) → Known P N V → Type 0
  MayAsk noted k = (progress : P) (notes : List N) → Possible k progress notes → R.Asks k.session progress k.note (noted (R.completed progress) k.note)

  -- what a read of the completed tail n tells the session, which notes this by it
  abbrev pub Reads : (ℕ → N → N) → SeatView P N V → ℕ → SeatView P N V → Type 0
  Reads noted before n now = (k : Known P N V) → IsSession before k
      → (progress : P) × MayFind k progress × (n ≡ R.completed progress) × IsSession now (having_read k progress (noted n k.note) n (run_of now.sessions))
      × Adds k (Read n) progress (noted n k.note) (run_of now.sessions)

  -- what a raise of the completed tail to at least n tells the session
  abbrev pub Raises : SeatView P N V → ℕ → SeatView P N V → Type 0
  Raises before n now = (k : Known P N V) → IsSession before k
      → (progress : P) × Later k progress × MayFind k (R.raised progress n) × (R.completed (R.raised progress n) ≡ max (R.completed progress) n)
      × IsSession now (having_raised k (R.raised progress n) n (run_of now.sessions)) × Adds k (Raised n) (R.raised progress n) k.note (run_of now.sessions)

  -- the value of each place agrees with this progress and these notes
  abbrev pub AllAgree : P → List N → List (Option V) → Type 0
  AllAgree progress notes slots = (p : ℕ) → p < length slots → (x : V) × At p (Some x) slots × R.AgreesWith p progress notes x

  -- each session with a number below this count is in the view
  abbrev pub HasAllSessions : ℕ → View P N V → Type 0
  HasAllSessions count v = (q : ℕ) → q < count → (i : ℕ) × (k : Known P N V) × At i k v × (k.session ≡ q)

  -- one run leads from what the shelf was opened with to this progress and these notes; of each of these sessions it goes on from the run that
  -- the session knows, and has exactly the session's own steps; these are all sessions, so it has no other steps
  pub record IsOneRun (opened : Opened P N) (progress : P) (notes : List N) (IsOne : Known P N V → Type 0) : Type 0 where
    pub run : Run P N V
    pub leads : Runs R opened run progress notes
    pub goes_on : (k : Known P N V) → IsOne k → Continues k.run run
    pub own : (k : Known P N V) → IsOne k → own_steps k.session run ≡ k.steps
    pub ends : (k : Known P N V) → IsOne k → EndsWithOwn k
    pub all : (c : ℕ) → c < length opened.notes → (k : Known P N V) × IsOne k × (k.session ≡ c)

  -- at the end: each value agrees with one progress, which has grown from the one of each of these sessions, and with the notes that they bring, which are all notes
  abbrev pub Closes : Opened P N → View P N V → List (Option V) → Type 0
  Closes opened v slots =
      (progress : P) × (notes : List N) × R.Accounts progress notes × (length notes ≡ length opened.notes)
      × ((i : ℕ) (k : Known P N V) → At i k v → R.Extends k.progress progress × At k.session k.note notes)
      × AllAgree progress notes slots
      × HasAllSessions (length opened.notes) v
      × IsOneRun opened progress notes (λ k. (i : ℕ) × At i k v)

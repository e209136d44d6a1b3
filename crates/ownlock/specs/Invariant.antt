-- What holds of the words, the slots and the seats between any two atomic steps, and what each step on a word tells.
-- A place has a mark in the word of its line, and one slot. The completed tail has a word of its own.
use Rattle.std.specs.Prelude.{◌≡◌, ◌≢◌, ℕ, Bool, true, false, suc, ◌<◌, ◌≤◌, ◌⊎◌, List, [], ◌∷◌, ◌++◌, map, length, slice_index, IfSome, Option, Some, None}
use mathlib.Core.Option as kernel
use Rattle.atomic_table.specs.Table.{State, Me, Step}
use Rattle.ownlock.specs.declared.known.Known.{Known}
use Rattle.ownlock.specs.declared.known.ShelfStep.TheVariants.{Put, Read, Raised}
use Rattle.ownlock.specs.Rules.{Rules}
use Rattle.ownlock.specs.Words.{IsMarked, completed_word, slot_of, winner_at, won_by, word_of}
use Rattle.ownlock.specs.Spreading.{HasGaps}
use Rattle.ownlock.specs.Runs.{Runs}
use Rattle.ownlock.specs.Seats.{At, View, Opened, Run, Continues, OthersStepped, Adds, EndsWithOwn, own_steps, place_of, taken_by, without, left_with, holding, settled_with, handed, having_raised, having_read}
use Rattle.ownlock.specs.Knowledge.{Later, Possible, Acquired, MayFind}

-- the slot of a place that is held has no value
abbrev pub emptied : {V : Type 0} → ℕ × V → ℕ × Option V
emptied u = (slot_of u.0, None)

module _ {P N V : Type 0} where
  -- the seat of the table is the one session k, and the slots of the places that k holds are out with it
  abbrev pub StepsAs : Me (Option V) (View P N V) → Known P N V → Type 0
  StepsAs m k = m ≡ (k ∷ [], map emptied k.held)

  -- its seat, where the slot of the held place p is the first of those that are out
  abbrev pub with_front : ℕ → Known P N V → Me (Option V) (View P N V)
  with_front p k = (k ∷ [], (slot_of p, None) ∷ map emptied (without p k.held))

  -- the slots that are out with these sessions
  abbrev pub out_of : View P N V → List (ℕ × Option V)
  out_of [] = []
  out_of (k ∷ ks) = map emptied k.held ++ out_of ks

  -- some seat has what the session with this number knows
  abbrev pub KnownBySome : ℕ → List (View P N V) → Type 0
  KnownBySome c views = (j i : ℕ) × (v : View P N V) × (k : Known P N V) × At j v views × At i k v × (k.session ≡ c)

  -- the first session of a view, and the others
  abbrev pub first_of : View P N V → View P N V
  first_of [] = []
  first_of (k ∷ ks) = k ∷ []

  abbrev pub others_of : View P N V → View P N V
  others_of [] = []
  others_of (k ∷ ks) = ks

module _ {P N V : Type 0} (R : Rules P N V) where
  -- what one session knows is so: its knowledge is possible, it may hold what it holds, each place once, and their slots are out; the run
  -- goes on from the run that the session knows, and has exactly the session's own steps
  pub record SessionInvariant (progress : P) (notes : List N) (run : Run P N V) (homes : List (kernel.Option (Option V))) (holder : ℕ → ℕ) (k : Known P N V) : Type 0 where
    pub possible : Possible R k progress notes
    pub allowed : R.Allows k.progress k.session (map place_of k.held)
    pub apart : (a b : ℕ) (u w : ℕ × V) → At a u k.held → At b w k.held → u.0 ≡ w.0 → a ≡ b
    pub out : (a : ℕ) (u : ℕ × V) → At a u k.held → (holder u.0 ≡ k.session) × At (slot_of u.0) kernel.none homes
    pub goes_on : Continues k.run run
    pub own : own_steps k.session run ≡ k.steps
    pub ends : EndsWithOwn k

  -- the value of the place is on the shelf, and agrees
  abbrev pub HasValue : P → List N → List (kernel.Option (Option V)) → ℕ → Type 0
  HasValue progress notes homes p = (x : V) × At (slot_of p) (kernel.some (Some x)) homes
      × R.AgreesWith p progress notes x

  -- some session of some seat holds the place
  abbrev pub HeldBySome : ℕ → List (View P N V) → Type 0
  HeldBySome p views = (j : ℕ) × (v : View P N V) × (i : ℕ) × (k : Known P N V) × (a : ℕ) × (u : ℕ × V) × At j v views × At i k v × At a u k.held × (u.0 ≡ p)

  pub record LockInvariant (opened : Opened P N) (s : State (Option V) (View P N V)) : Type 0 where
    -- the progress of all sessions, and the note of each
    pub progress : P
    pub notes : List N
    -- the run: the steps of all sessions so far, which lead there
    pub run : Run P N V
    pub leads : Runs R opened run progress notes
    -- the progress has grown from the one that the shelf was opened with, and the shelf has the slots of the places that it was opened with
    pub grown : R.Extends opened.progress progress
    pub placed : length s.homes ≡ slot_of opened.places
    -- the seat of each session, and the session that holds each place
    pub owner : ℕ → ℕ
    pub holder : ℕ → ℕ
    pub accounts : R.Accounts progress notes
    pub counted : length notes ≡ length opened.notes
    pub wide : length s.words ≡ word_of (suc opened.places)
    pub tail : slice_index s.words (completed_word opened.places) ≡ R.completed progress
    -- the slots between those of the places hold nothing
    pub gaps : HasGaps (kernel.some None) opened.places s.homes
    -- each place has its value on the shelf, or is held. If it is marked, it is held. If it is held, it is marked, or
    -- its holder has won the line.
    pub there : (p : ℕ) → p < opened.places → HasValue progress notes s.homes p ⊎ HeldBySome p s.views
    pub busy : (p : ℕ) → p < opened.places → IsMarked opened.places s.words p → HeldBySome p s.views
    pub marked : (p : ℕ) → p < opened.places → HeldBySome p s.views
        → IsMarked opened.places s.words p ⊎ (winner_at opened.places s.words p ≡ suc (holder p))
    pub each : (j i : ℕ) (v : View P N V) (k : Known P N V) → At j v s.views → At i k v
        → SessionInvariant progress notes run s.homes holder k × (owner k.session ≡ j)
    pub distinct : (j a b : ℕ) (v : View P N V) (k m : Known P N V) → At j v s.views → At a k v → At b m v
        → k.session ≡ m.session → a ≡ b
    -- no session is left out
    pub all : (c : ℕ) → c < length opened.notes → KnownBySome c s.views

  -- the seat of the table, which is a session, is that session still once it has taken the value x of the place p
  abbrev pub StepsTaking : Me (Option V) (View P N V) → ℕ → V → Me (Option V) (View P N V) → Type 0
  StepsTaking m p x m' = (k : Known P N V) → StepsAs m k → (after : Known P N V) × Acquired R p k after x × StepsAs m' after

  -- and once it has put the value y back to the place p
  abbrev pub StepsPutting : (P → P) → (N → N) → Me (Option V) (View P N V) → ℕ → V → Me (Option V) (View P N V) → Type 0
  StepsPutting grown noted m p y m' = (k : Known P N V) → StepsAs m k → (progress : P) × MayFind R k progress
      × ((run : Run P N V) × Adds k (Put p y) (grown progress) (noted k.note) run × StepsAs m' (left_with k p y (grown progress) (noted k.note) run))

  -- and once it has settled the value y at the place p, which it keeps
  abbrev pub StepsSettling : (P → P) → (N → N) → Me (Option V) (View P N V) → ℕ → V → Me (Option V) (View P N V)
      → Type 0
  StepsSettling grown noted m p y m' = (k : Known P N V) → StepsAs m k
      → (progress : P) × MayFind R k progress × ((run : Run P N V) × OthersStepped k run
      × MayFind R (settled_with k p y (grown progress) (noted k.note) run) (grown progress) × StepsAs m' (settled_with k p y (grown progress) (noted k.note) run))

  -- and once its first session has handed the place p on to the next
  abbrev pub StepsHanding : (P → P) → (N → N) → Me (Option V) (View P N V) → ℕ → V → Me (Option V) (View P N V) → Type 0
  StepsHanding grown noted me p y me' = (k m : Known P N V) (ms : View P N V) → me ≡ (k ∷ m ∷ ms, (slot_of p, None) ∷ [])
      → (progress : P) × MayFind R k progress × ((run : Run P N V) × OthersStepped k run × OthersStepped m (taken_by k (Put p y) (grown progress) (noted k.note) ∷ run)
      × MayFind R (holding m (grown progress) p y run) (grown progress) × Later R m (grown progress)
      × (me' ≡ (handed k m ms p y (grown progress) (noted k.note) run, (slot_of p, None) ∷ [])))

  -- the seat, which was the session k, has the value of the place, and knows a progress that it agrees with
  abbrev pub StepsOut : ℕ → Known P N V → Me (Option V) (View P N V) → Me (Option V) (View P N V) → Type 0
  StepsOut p k m m' = (after : Known P N V) × (x : V) × Acquired R p k after x
      × (m' ≡ (after ∷ [], (slot_of p, Some x) ∷ m.1))

  -- what a try at a place did, by whether it took the place: else nothing has changed
  abbrev pub TellsTaken : ℕ → Known P N V → (m m' : Me (Option V) (View P N V)) → Bool → Type 0
  TellsTaken p k m m' taken = (taken ≡ false → m' ≡ m) × (taken ≡ true → StepsOut p k m m')

  -- the same by the word that was found, and the one by which the place is taken
  abbrev pub TellsFound : ℕ → Known P N V → (m m' : Me (Option V) (View P N V)) → (found by : ℕ) → Type 0
  TellsFound p k m m' found by = (found ≢ by → m' ≡ m) × (found ≡ by → StepsOut p k m m')

  -- the same by the word that says that its session has won the line
  abbrev pub TellsWon : ℕ → (m m' : Me (Option V) (View P N V)) → (found : ℕ) → Type 0
  TellsWon p m m' found = (k : Known P N V) → StepsAs m k → TellsFound p k m m' found (won_by k.session)

  -- a try at a place: where the word was what it expects, the seat has the value
  abbrev pub tried : ℕ → Step (Option V) → Me (Option V) (View P N V) → ℕ → Me (Option V) (View P N V) → Type 0
  tried p st m r m' = (k : Known P N V) → StepsAs m k → TellsFound p k m m' r st.first

  -- a look at a place: where its session has won the line, and no place of that is marked, the seat has the value
  abbrev pub tried_won : ℕ → Step (Option V) → Me (Option V) (View P N V) → ℕ → Me (Option V) (View P N V) → Type 0
  tried_won p st m r m' = TellsWon p m m' r

  -- a look by a seat that holds the place: the slot of that place is then the first of those that are out
  abbrev pub fronted : ℕ → Step (Option V) → Me (Option V) (View P N V) → ℕ → Me (Option V) (View P N V) → Type 0
  fronted p st m r m' = (k : Known P N V) → StepsAs m k → m' ≡ with_front p k

  -- a step that changes nothing but who has won a line
  abbrev pub kept : Step (Option V) → Me (Option V) (View P N V) → ℕ → Me (Option V) (View P N V) → Type 0
  kept st m r m' = m' ≡ m

  -- there is such a state between two atomic steps, and some seat has this view there
  abbrev pub StandsThere : Opened P N → View P N V → Type 0
  StandsThere opened v = (s : State (Option V) (View P N V)) × LockInvariant opened s × ((j : ℕ) × At j v s.views)

  -- a look at any word, of a shelf that may have been opened so: the seat is as it was, and stands in a state of the shelf
  abbrev pub stood : Option (Opened P N) → Step (Option V) → Me (Option V) (View P N V) → ℕ
      → Me (Option V) (View P N V) → Type 0
  stood may st m r m' = (m' ≡ m) × IfSome may (λ opened. StandsThere opened m.0)

  -- the session k has put the value y back to the place p, in whose slot it was
  abbrev pub StepsLeft : (P → P) → (N → N) → Known P N V → ℕ → V → List (ℕ × Option V) → Me (Option V) (View P N V)
      → Type 0
  StepsLeft grown noted k p y out m' = (progress : P) × ((notes : List N) × Possible R k progress notes)
      × ((run : Run P N V) × Adds k (Put p y) (grown progress) (noted k.note) run
      × (m' ≡ (left_with k p y (grown progress) (noted k.note) run ∷ [], out)))

  -- the same, by the word that was found, and the one by which the place is left: else nothing has changed
  abbrev pub TellsLeft : (P → P) → (N → N) → Known P N V → ℕ → V → List (ℕ × Option V)
      → (m m' : Me (Option V) (View P N V)) → (found by : ℕ) → Type 0
  TellsLeft grown noted k p y out m m' found by =
      (found ≢ by → m' ≡ m) × (found ≡ by → StepsLeft grown noted k p y out m')

  -- the mark of a held place, in whose slot the value y is, is taken away
  abbrev pub freed : (P → P) → (N → N) → Step (Option V) → Me (Option V) (View P N V) → ℕ → Me (Option V) (View P N V)
      → Type 0
  freed grown noted st m r m' = (k : Known P N V) (p : ℕ) (y : V) (out : List (ℕ × Option V))
      → m ≡ (k ∷ [], (slot_of p, Some y) ∷ out)
      → StepsLeft grown noted k p y out m'

  -- the same, where the word was what the step expects
  abbrev pub freed_alone : (P → P) → (N → N) → Step (Option V) → Me (Option V) (View P N V) → ℕ
      → Me (Option V) (View P N V) → Type 0
  freed_alone grown noted st m r m' = (k : Known P N V) (p : ℕ) (y : V) (out : List (ℕ × Option V))
      → m ≡ (k ∷ [], (slot_of p, Some y) ∷ out) → TellsLeft grown noted k p y out m m' r st.first

  -- the same by a look, where its session has won the line, and no place of that is marked
  abbrev pub freed_won : (P → P) → (N → N) → Step (Option V) → Me (Option V) (View P N V) → ℕ
      → Me (Option V) (View P N V)
      → Type 0
  freed_won grown noted st m r m' = (k : Known P N V) (p : ℕ) (y : V) (out : List (ℕ × Option V))
      → m ≡ (k ∷ [], (slot_of p, Some y) ∷ out)
      → TellsLeft grown noted k p y out m m' r (won_by k.session)

  -- the value y in the slot of a held place is put back and taken again in one step, at which the word stays as it is
  abbrev pub settled : (P → P) → (N → N) → Step (Option V) → Me (Option V) (View P N V) → ℕ
      → Me (Option V) (View P N V) → Type 0
  settled grown noted st m r m' = (k : Known P N V) (p : ℕ) (y : V) (out : List (ℕ × Option V))
      → m ≡ (k ∷ [], (slot_of p, Some y) ∷ out)
      → (progress : P) × ((notes : List N) × Possible R k progress notes) × ((run : Run P N V) × OthersStepped k run
      × ((notes : List N) × Possible R (settled_with k p y (grown progress) (noted k.note) run) (grown progress) notes)
      × (m' ≡ (settled_with k p y (grown progress) (noted k.note) run ∷ [], (slot_of p, Some y) ∷ out)))

  -- the first session k of a seat has put the value y back to the place p, and the next one has taken it
  abbrev pub StepsOn : (P → P) → (N → N) → (k m : Known P N V) → View P N V → ℕ → V → Me (Option V) (View P N V)
      → Type 0
  StepsOn grown noted k m ms p y me' =
      (progress : P) × ((notes : List N) × Possible R k progress notes)
      × ((run : Run P N V) × OthersStepped k run
      × OthersStepped m (taken_by k (Put p y) (grown progress) (noted k.note) ∷ run)
      × ((notes : List N) × Possible R (holding m (grown progress) p y run) (grown progress) notes) × Later R m (grown progress)
      × (me' ≡ (handed k m ms p y (grown progress) (noted k.note) run, (slot_of p, Some y) ∷ [])))

  -- the value y in the slot of a place that the first session of a seat holds is put back by it, and taken by the
  -- next, in one step
  abbrev pub handed_on : (P → P) → (N → N) → Step (Option V) → Me (Option V) (View P N V) → ℕ
      → Me (Option V) (View P N V) → Type 0
  handed_on grown noted st me n me' = (k m : Known P N V) (ms : View P N V) (p : ℕ) (y : V)
      → me ≡ (k ∷ m ∷ ms, (slot_of p, Some y) ∷ [])
      → StepsOn grown noted k m ms p y me'

  -- the same by a look, where nobody has won the line: the place is marked then
  abbrev pub handed_marked : (P → P) → (N → N) → Step (Option V) → Me (Option V) (View P N V) → ℕ
      → Me (Option V) (View P N V) → Type 0
  handed_marked grown noted st me n me' = (k m : Known P N V) (ms : View P N V) (p : ℕ) (y : V)
      → me ≡ (k ∷ m ∷ ms, (slot_of p, Some y) ∷ [])
      → (256 ≤ n → me' ≡ me) × (n < 256 → StepsOn grown noted k m ms p y me')

  -- the word of the completed tail is read: the seat knows a progress with that completed tail, and that it has read this
  abbrev pub done_read : (ℕ → N → N) → Step (Option V) → Me (Option V) (View P N V) → ℕ → Me (Option V) (View P N V)
      → Type 0
  done_read noted st m r m' = (k : Known P N V) → m.0 ≡ k ∷ [] → (progress : P) × ((notes : List N) × Possible R k progress notes) × (r ≡ R.completed progress)
      × ((run : Run P N V) × Adds k (Read r) progress (noted r k.note) run × (m' ≡ (having_read k progress (noted r k.note) r run ∷ [], m.1)))

  -- the word of the completed tail is raised: the seat knows a progress with the completed tail so raised
  abbrev pub done_raised : Step (Option V) → Me (Option V) (View P N V) → ℕ → Me (Option V) (View P N V) → Type 0
  done_raised st m r m' = (k : Known P N V) → m.0 ≡ k ∷ [] → (before : P) × Later R k before × ((notes : List N) × Possible R k (R.raised before st.first) notes)
      × ((run : Run P N V) × Adds k (Raised st.first) (R.raised before st.first) k.note run × (m' ≡ (having_raised k (R.raised before st.first) st.first run ∷ [], m.1)))

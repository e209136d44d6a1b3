-- What a seat and a shelf are to their users: plain data.
use Rattle.std.specs.Prelude.{◌≡◌, ◌≢◌, ◌⊎◌, ℕ, suc, List, [], ◌∷◌, ◌++◌, ◌==◌, if◌then◌else◌}
use mathlib.Core.Option as kernel
use lib.ListN.{get_elem?}
use Rattle.atomic_table.specs.Seated.{TableId}
use Rattle.ownlock.specs.declared.known.Known.{Known}
use Rattle.ownlock.specs.declared.known.SharedStep.{SharedStep}
use Rattle.ownlock.specs.declared.known.ShelfStep.{ShelfStep}
use Rattle.ownlock.specs.declared.known.ShelfStep.TheVariants.{Took, Put, Read, Raised}

-- x stands at i
abbrev pub At : {A : Type 0} → ℕ → A → List A → Type 0
At i x xs = get_elem? xs i ≡ kernel.some x

-- the identity of a shelf; no two shelves have the same
abbrev pub ShelfId : Type 0
ShelfId = TableId

-- what one or more sessions know
abbrev pub View : Type 0 → Type 0 → Type 0 → Type 0
View P N V = List (Known P N V)

-- a seat is of one shelf, and has the knowledge of its sessions
pub record SeatView (P N V : Type 0) : Type 0 where
  pub shelf : ShelfId
  pub sessions : View P N V

-- a shelf has so many places, and was opened with that setup
pub record ShelfView (A : Type 0) : Type 0 where
  pub id : ShelfId
  pub places : ℕ
  pub setup : A

-- what a shelf was opened with: the first progress, how many places it has, and the first note of each session
pub record Opened (P N : Type 0) : Type 0 where
  pub progress : P
  pub places : ℕ
  pub notes : List N

-- this progress, so many places, and a session for each of these notes
abbrev pub opened_with : {P N : Type 0} → P → ℕ → List N → Opened P N
opened_with progress places notes = record { progress = progress; places = places; notes = notes }

abbrev pub place_of : {V : Type 0} → ℕ × V → ℕ
place_of u = u.0

module _ {V : Type 0} where
  -- the held places but this one
  abbrev pub without : ℕ → List (ℕ × V) → List (ℕ × V)
  without p [] = []
  without p (u ∷ us) = if u.0 == p then us else u ∷ without p us

  -- the place is not among these
  abbrev pub IsNotHeld : ℕ → List (ℕ × V) → Type 0
  IsNotHeld p held = (a : ℕ) (u : ℕ × V) → At a u held → u.0 ≢ p

-- each completed tail that was read in these steps, of which the last stands first; in order
abbrev pub tails_in : {V : Type 0} → List (ShelfStep V) → List ℕ
tails_in [] = []
tails_in (Took p x ∷ steps) = tails_in steps
tails_in (Put p y ∷ steps) = tails_in steps
tails_in (Read n ∷ steps) = tails_in steps ++ n ∷ []
tails_in (Raised n ∷ steps) = tails_in steps

-- a run: the steps of all sessions in one order, the last step first
abbrev pub Run : Type 0 → Type 0 → Type 0 → Type 0
Run P N V = List (SharedStep P N V)

-- the steps of this session in a run
abbrev pub own_steps : {P N V : Type 0} → ℕ → Run P N V → List (ShelfStep V)
own_steps c [] = []
own_steps c (e ∷ es) = if e.session == c then e.step ∷ own_steps c es else own_steps c es

-- the second run goes on from the first
abbrev pub Continues : {P N V : Type 0} → Run P N V → Run P N V → Type 0
Continues {P} {N} {V} run later = (since : Run P N V) × (later ≡ since ++ run)

module _ {P N V : Type 0} where
  -- the step that the session k takes, with the progress after it, and the session's note before and after it
  abbrev pub taken_by : Known P N V → ShelfStep V → P → N → SharedStep P N V
  taken_by k step progress note = record { session = k.session; step = step; progress = progress; before = k.note; note = note }

  -- the run has gone on from what k knew of it, by steps of others alone
  abbrev pub OthersStepped : Known P N V → Run P N V → Type 0
  OthersStepped k later = Continues k.run later × (own_steps k.session later ≡ k.steps)

  -- others have stepped, and then k has taken this step, with this progress and this note after it
  abbrev pub Adds : Known P N V → ShelfStep V → P → N → Run P N V → Type 0
  Adds k step progress note run = (before : Run P N V) × OthersStepped k before × (run ≡ taken_by k step progress note ∷ before)

  -- by this step k has become `after`
  abbrev pub StepsTo : Known P N V → ShelfStep V → Known P N V → Type 0
  StepsTo k step after = Adds k step after.progress after.note after.run

  -- what k knows of the run has exactly the steps of k, and ends with the last of them, after which k has its progress and its note
  pub record EndsWithOwn (k : Known P N V) : Type 0 where
    pub seen : own_steps k.session k.run ≡ k.steps
    pub last : ((k.run ≡ []) × (k.steps ≡ []))
        ⊎ ((before : Run P N V) × (e : SharedStep P N V) × (k.run ≡ e ∷ before) × (e.session ≡ k.session) × (e.progress ≡ k.progress) × (e.note ≡ k.note))

  -- the session k of a shelf that was opened so has exactly its own steps in what it knows of the run, and that ends with the last of them. Before
  -- its first step it has the progress and the note that the shelf was opened with.
  pub record EndsSince (opened : Opened P N) (k : Known P N V) : Type 0 where
    pub ends : EndsWithOwn k
    pub fresh : k.run ≡ [] → (k.progress ≡ opened.progress) × At k.session k.note opened.notes

  -- k has taken this step, and is `after` then: the step is the last of its own, and the run has gone on, and ends with it
  abbrev pub HasStepped : Known P N V → ShelfStep V → Known P N V → Type 0
  HasStepped k step after = (after.steps ≡ step ∷ k.steps) × Continues k.run after.run × EndsWithOwn after

  -- what the first session of a seat knows of the run
  abbrev pub run_of : View P N V → Run P N V
  run_of [] = []
  run_of (k ∷ ks) = k.run

  -- the seat is the one session k
  abbrev pub IsSession : SeatView P N V → Known P N V → Type 0
  IsSession s k = s.sessions ≡ k ∷ []

  -- the session, once it has taken the place p with the value x
  abbrev pub holding : Known P N V → P → ℕ → V → Run P N V → Known P N V
  holding k progress p x run = record { session = k.session; progress = progress; note = k.note; held = (p, x) ∷ k.held; steps = Took p x ∷ k.steps; run = run }

  -- the session, once it has put the value y back to the place p
  abbrev pub left_with : Known P N V → ℕ → V → P → N → Run P N V → Known P N V
  left_with k p y progress note run = record { session = k.session; progress = progress; note = note; held = without p k.held; steps = Put p y ∷ k.steps; run = run }

  -- the session k took the place p last
  abbrev pub TookLast : ℕ → Known P N V → Type 0
  TookLast p k = (x : V) × (us : List (ℕ × V)) × (k.held ≡ (p, x) ∷ us)

  -- the session has taken the place p with the value y by the step right after this run: no session has stepped between
  abbrev pub TookNext : Run P N V → ℕ → V → Known P N V → Type 0
  TookNext run p y after = after.run ≡ taken_by after (Took p y) after.progress after.note ∷ run

  -- the session, once it has put the value y back to the place p as the step behind this run
  abbrev pub putting : Known P N V → ℕ → V → P → N → Run P N V → Known P N V
  putting k p y progress note run = left_with k p y progress note (taken_by k (Put p y) progress note ∷ run)

  -- the session, once it has taken the place p with the value y as the step behind this run
  abbrev pub taking : Known P N V → ℕ → V → P → Run P N V → Known P N V
  taking k p y progress run = holding k progress p y (taken_by k (Took p y) progress k.note ∷ run)

  -- the session, once it has put the value y back to the place p and has taken it again at once, before anybody else could
  abbrev pub settled_with : Known P N V → ℕ → V → P → N → Run P N V → Known P N V
  settled_with k p y progress note run = let left = putting k p y progress note run in taking left p y progress left.run

  -- the sessions of a seat, once the first, k, has put the value y back to the place p and stands behind the others, and the next, m, has taken it
  -- at once, before anybody else could
  abbrev pub handed : Known P N V → Known P N V → List (Known P N V) → ℕ → V → P → N → Run P N V → List (Known P N V)
  handed k m ms p y progress note run = let left = putting k p y progress note run in taking m p y progress left.run ∷ (ms ++ left ∷ [])

  -- the session, once it has raised the completed tail to n, and knows this progress
  abbrev pub having_raised : Known P N V → P → ℕ → Run P N V → Known P N V
  having_raised k progress n run = record { session = k.session; progress = progress; note = k.note; held = k.held; steps = Raised n ∷ k.steps; run = run }

  -- the session, once it has read the completed tail n, with this note, and knows this progress
  abbrev pub having_read : Known P N V → P → N → ℕ → Run P N V → Known P N V
  having_read k progress note n run = record { session = k.session; progress = progress; note = note; held = k.held; steps = Read n ∷ k.steps; run = run }

  -- all sessions, from the i-th on, each with its note
  abbrev pub all_sessions : P → ℕ → List N → View P N V
  all_sessions progress i [] = []
  all_sessions progress i (n ∷ ns) = record { session = i; progress = progress; note = n; held = []; steps = []; run = [] } ∷ all_sessions progress (suc i) ns

  -- a view whose first session is k goes into k alone, and the others
  abbrev pub IsSplit : View P N V → View P N V → View P N V → Type 0
  IsSplit all first others = (k : Known P N V) (ks : View P N V) → all ≡ k ∷ ks → (others ≡ ks) × (first ≡ k ∷ [])

  -- the view has a session
  abbrev pub HasSession : View P N V → Type 0
  HasSession v = (k : Known P N V) × (ks : View P N V) × (v ≡ k ∷ ks)

  -- no session of the view holds a place
  abbrev pub HoldsNone : View P N V → Type 0
  HoldsNone v = (i : ℕ) (k : Known P N V) → At i k v → k.held ≡ []

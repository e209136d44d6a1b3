-- What holds of a store between any two atomic steps of its sessions' threads.
use Rattle.std.specs.Prelude.{◌≡◌, ℕ, ◌*◌, ◌<◌, List, map, length, slice_index, Option}
use Rattle.atomic_table.specs.Table.{State}
use Rattle.loader.specs.CatalogueView.{CatalogueView}
use Rattle.ownlock.specs.declared.known.Known.{Known}
use Rattle.ownlock.specs.Words.{completed_word, slot_of}
use Rattle.ownlock.specs.Runs.{Runs}
use Rattle.ownlock.specs.Seats.{At, Continues, EndsWithOwn, Run, View, own_steps, place_of}
use Rattle.ownlock.specs.Between.{Holds, IsHomeOrHeld}
use Rattle.replica.specs.StoreMeaning.{store_meaning}
use Rattle.accounts.specs.declared.sessions.AnsweredUpdate.{AnsweredUpdate}
use Rattle.accounts.specs.declared.sessions.Progress.{Progress}
use Rattle.accounts.specs.declared.sessions.SessionNote.{SessionNote}
use Rattle.accounts.specs.Accounts.{Accounts, Extends}
use Rattle.accounts.specs.Agreement.{log_place}
use Rattle.accounts.specs.Moves.{MayHold}
use Rattle.accounts.specs.Told.{StandsOnce}
use Rattle.store_steps.specs.declared.values.Setup.{Setup}
use Rattle.store_steps.specs.declared.values.Value.{Value}
use Rattle.store_steps.specs.Shelving.{places_of, store_opening, store_rules}

-- what one session knows: the progress that it saw last, its note, and the places that it holds, each with its value as it was taken
abbrev pub StoreKnown : Type 0
StoreKnown = Known (Progress CatalogueView) SessionNote Value

-- the words and the slots of the store's shelf, and what the sessions of each seat know
abbrev pub StoreState : Type 0
StoreState = State (Option Value) (View (Progress CatalogueView) SessionNote Value)

-- a store that was opened with this configuration and this catalogue is in this state
pub record Meanwhile (opening : Setup) (s : StoreState) : Type 0 where
  -- the log has one place, and each node one for its replica and one for its desk, and the table has the slots of so many places
  pub places : length s.homes ≡ slot_of (places_of opening.config)
  -- the configuration and the catalogue of the opening, the history and its completed tail
  pub progress : Progress CatalogueView
  pub config : progress.config ≡ opening.config
  pub catalogue : progress.catalogue ≡ opening.catalogue
  -- of each session, one for each slot of each node, which updates were answered it, which it waits for, and which it combines
  pub notes : List SessionNote
  pub count : length notes ≡ opening.config.nodes * opening.config.slots
  -- the sessions' notes account for one another
  pub accounts : Accounts store_meaning progress notes
  -- each answered update stands once in the history, at its index, with the reply that it gets there
  pub answered : (a q : ℕ) (n : SessionNote) (u : AnsweredUpdate) → At a n notes → At q u n.answered → StandsOnce store_meaning progress a q u
  -- the history has grown from what each session knows, whose note is its own, and which holds no more than it may
  pub grown : (j i : ℕ) (v : List StoreKnown) (k : StoreKnown) → At j v s.views → At i k v → Extends k.progress progress
  pub noted : (j i : ℕ) (v : List StoreKnown) (k : StoreKnown) → At j v s.views → At i k v → At k.session k.note notes
  pub holds : (j i : ℕ) (v : List StoreKnown) (k : StoreKnown) → At j v s.views → At i k v → MayHold k.progress k.session (map place_of k.held)
  -- each place is free, with its value, or one session alone holds it; the value, as it is or as that took it, agrees
  pub each : (p : ℕ) → p < places_of opening.config
      → IsHomeOrHeld store_rules s progress notes (places_of opening.config) p
  -- the word behind those of the places is the completed tail
  pub completed : slice_index s.words (completed_word (places_of opening.config)) ≡ progress.completed
  -- one run of the steps of all sessions leads there from what the store was opened with, and the rules allow each step; it goes on from the
  -- run that a session knows, and has exactly the session's own steps, the last of which left the session's progress and note
  pub run : Run (Progress CatalogueView) SessionNote Value
  pub leads : Runs store_rules (store_opening opening) run progress notes
  pub goes_on : (j i : ℕ) (v : List StoreKnown) (k : StoreKnown) → At j v s.views → At i k v → Continues k.run run
  pub own : (j i : ℕ) (v : List StoreKnown) (k : StoreKnown) → At j v s.views → At i k v → own_steps k.session run ≡ k.steps
  pub ends : (j i : ℕ) (v : List StoreKnown) (k : StoreKnown) → At j v s.views → At i k v → EndsWithOwn k
  -- each session with a note is among these, so the run has no other steps
  pub all : (c : ℕ) → c < length notes → (j i : ℕ) × (v : List StoreKnown) × (k : StoreKnown) × At j v s.views × At i k v × (k.session ≡ c)
  -- while a session holds the log, the history is the one that it knows
  pub still : (j i a : ℕ) (k : StoreKnown) (x : Value) → Holds s j i a k log_place x → k.progress.history ≡ progress.history

-- Where the steps of all sessions lead from what a shelf was opened with.
use Rattle.std.specs.Prelude.{◌≡◌, ℕ, List, [], ◌∷◌, slice_set}
use Rattle.ownlock.specs.declared.known.SharedStep.{SharedStep}
use Rattle.ownlock.specs.declared.known.ShelfStep.{ShelfStep}
use Rattle.ownlock.specs.declared.known.ShelfStep.TheVariants.{Took, Put, Read, Raised}
use Rattle.ownlock.specs.Rules.{Rules, Move, IsAmong, new_notes}
use Rattle.ownlock.specs.Seats.{At, Opened, Run}

-- a step of the session c that keeps its note
abbrev pub keeping : {P N V : Type 0} → ℕ → ShelfStep V → P → N → SharedStep P N V
keeping c step progress note = record { session = c; step = step; progress = progress; before = note; note = note }

module _ {P N V : Type 0} (R : Rules P N V) (opened : Opened P N) where
  -- these steps lead from what the shelf was opened with to this progress and these notes, and the rules allow each step where it is taken
  pub data Runs : Run P N V → P → List N → Type 0 where
    Begins : Runs [] opened.progress opened.notes
    -- a session takes a value that agrees with the progress and the notes
    Takes : (run : Run P N V) (l : P) (ns : List N) (c p : ℕ) (x : V) (n : N) → Runs run l ns → At c n ns → R.AgreesWith p l ns x
        → Runs (keeping c (Took p x) l n ∷ run) l ns
    -- a session puts a value back by a move, and the value agrees with the new progress and the new notes
    Puts : (run : Run P N V) (ns : List N) (move : Move R) (y : V) → Runs run move.progress ns → IsAmong move ns
        → R.AgreesWith move.place move.new_progress (new_notes move ns) y
        → Runs (record { session = move.session; step = Put move.place y; progress = move.new_progress; before = move.note; note = move.new_note } ∷ run)
        move.new_progress (new_notes move ns)
    -- a session reads the completed tail, and may note that it asks something there
    Loads : (run : Run P N V) (l : P) (ns : List N) (c found : ℕ) (n n' : N) → Runs run l ns → At c n ns → found ≡ R.completed l → R.Asks c l n n'
        → Runs (record { session = c; step = Read found; progress = l; before = n; note = n' } ∷ run) l (slice_set ns c n')
    -- a session raises the completed tail to a number that the progress reaches
    Raises : (run : Run P N V) (l : P) (ns : List N) (c k : ℕ) (n : N) → Runs run l ns → At c n ns → R.Reaches l k
        → Runs (keeping c (Raised k) (R.raised l k) n ∷ run) (R.raised l k) ns

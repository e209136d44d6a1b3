-- What a thread of a node does step by step, where others take steps between its own.
use Rattle.std.specs.Prelude.{◌≡◌, ℕ, ◌-◌, ◌≤◌, true, List, [], ◌∷◌, ◌++◌, take, drop}
use Rattle.loader.specs.CatalogueView.{CatalogueView}
use Rattle.oplog.specs.History.{History, after}
use Rattle.oplog.specs.Logs.{Log, tail_of}
use Rattle.combiner.specs.Desks.{first_author, claimed_from}
use Rattle.replica.specs.StoreMeaning.{store_meaning, AreUpdates}
use Rattle.node.specs.Steps.{NodeStep, Seen, may, next}

-- the log as it is seen together with the completed tail of the word, which the log itself may not have been told
abbrev pub with_word : ℕ → Log → Log
with_word done g = record g { done = done }

-- the log, once these records were added, its base has moved up to there, and so much is completed
abbrev pub moved_on : CatalogueView → History → (base done : ℕ) → Log → Log
moved_on c adds base done g =
    let records = g.records ++ adds in
    record g { base = base; base_state = after store_meaning c g.base_state (take (base - g.base) records); records = drop (base - g.base) records; done = done }

-- what others do between a thread's steps: they add updates, no more than the history may have, complete more, and move the base; at the
-- desk they claim nothing, and answer nothing that is claimed. The replica and the batch are the thread's
pub record OthersDo (c : CatalogueView) (s t : Seen) : Type 0 where
  pub adds : History
  pub updates : AreUpdates c adds
  pub within : tail_of t.log ≤ t.log.limit
  pub base : s.log.base ≤ t.log.base
  pub done : s.log.done ≤ t.log.done
  pub log : t.log ≡ moved_on c adds t.log.base t.log.done s.log
  pub reclaimed : t.log.base ≤ t.log.done
  pub completed : t.log.done ≤ tail_of t.log
  pub own : t.own ≡ s.own
  pub batch : t.batch ≡ s.batch
  pub claimed : claimed_from (first_author t.desk) t.desk.slots ≡ claimed_from (first_author s.desk) s.desk.slots

-- from what it sees first a thread comes to what it sees last by these steps, in this order, each of which it may take then; others may
-- do something before each, and after the last
pub data Goes (c : CatalogueView) : Seen → List NodeStep → Seen → Type 0 where
  Ends : (s : Seen) → Goes c s [] s
  Does : (step : NodeStep) (s t : Seen) (steps : List NodeStep) → may step s ≡ true → Goes c (next c step s) steps t → Goes c s (step ∷ steps) t
  Meets : (s t u : Seen) (steps : List NodeStep) → OthersDo c s t → Goes c t steps u → Goes c s steps u

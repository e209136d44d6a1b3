-- What a whole combine does on the shelf.
use Rattle.std.specs.Prelude.{◌≡◌, ℕ, suc, List, [], ◌∷◌}
use Rattle.ownlock.specs.declared.known.ShelfStep.{ShelfStep}
use Rattle.ownlock.specs.declared.known.ShelfStep.TheVariants.{Took, Put, Read, Raised}
use Rattle.combiner.specs.Desks.{BatchView}
use Rattle.store_steps.specs.Doing.{ADesk, ALog, AReplica, Did, Part}
use Rattle.store_steps.specs.Standing.{SessionKnown}
use Rattle.store_steps.specs.Whole.{CombinesBy}

-- how often the log is taken in these steps
abbrev pub takes_of_log : List (ShelfStep Part) → ℕ
takes_of_log [] = 0
takes_of_log (Took p (ALog g) ∷ steps) = suc (takes_of_log steps)
takes_of_log (Took p (AReplica n) ∷ steps) = takes_of_log steps
takes_of_log (Took p (ADesk d) ∷ steps) = takes_of_log steps
takes_of_log (Put p x ∷ steps) = takes_of_log steps
takes_of_log (Read n ∷ steps) = takes_of_log steps
takes_of_log (Raised n ∷ steps) = takes_of_log steps

-- of all steps that a combine takes on the shelf, one takes the log
abbrev pub TakesLogOnce : Type 0
TakesLogOnce =
    (k after : SessionKnown) (batch answered : BatchView) → CombinesBy k after batch answered → (steps : List (ShelfStep Part)) × Did k after steps × (takes_of_log steps ≡ 1)

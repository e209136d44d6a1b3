-- What was not read after a text that is not UTF-8.
use Rattle.std.proofs.Common.{inl, inr, Option, codes, refl}
use Rattle.engine.specs.declared.reading.Inputs.{Inputs}
use Rattle.engine.specs.declared.reading.Unread.{Unread}
use Rattle.engine.specs.declared.reading.Unread.TheVariants as faults
use Rattle.engine.specs.Reading.{GoesBy, NothingAfter}
use Rattle.engine.specs.Unread.{FailsAs}

module _ {F R : Type 0} (old : Inputs F R) (manifest file state history : Option R) where
  pub manifest_alone : (e : Unread) → FailsAs e (NothingAfter old (record old { manifest = manifest }))
  manifest_alone faults.NoMemory = tt
  manifest_alone faults.CannotRead = tt
  manifest_alone (faults.NotText s) = inr (refl, inr (refl, inr refl))

  pub up_to_file : (e : Unread) → FailsAs e (GoesBy (codes "the file")) → FailsAs e (NothingAfter old (record old { manifest = manifest; file = file }))
  up_to_file faults.NoMemory is = tt
  up_to_file faults.CannotRead is = tt
  up_to_file (faults.NotText s) is = inr (refl, inr (refl, inl is))

  pub up_to_state : (e : Unread) → FailsAs e (GoesBy (codes "the state")) → FailsAs e (NothingAfter old (record old { manifest = manifest; file = file; state = state }))
  up_to_state faults.NoMemory is = tt
  up_to_state faults.CannotRead is = tt
  up_to_state (faults.NotText s) is = inr (refl, inl is)

  pub up_to_history : (e : Unread) → FailsAs e (GoesBy (codes "the history")) → FailsAs e (NothingAfter old (record old { manifest = manifest; file = file; state = state; history = history }))
  up_to_history faults.NoMemory is = tt
  up_to_history faults.CannotRead is = tt
  up_to_history (faults.NotText s) is = inl is

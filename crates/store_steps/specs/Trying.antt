-- What a session leaves that tried, and found a place held.
use Rattle.std.specs.Prelude.{◌≡◌, ℕ, ◌≤◌, List, [], ◌∷◌, ◌++◌}
use Rattle.ownlock.specs.declared.known.ShelfStep.{ShelfStep}
use Rattle.ownlock.specs.Seats.{tails_in}
use Rattle.replica.specs.StoreMeaning.{store_meaning}
use Rattle.accounts.specs.Accounts.{Extends, IsWellFormed}
use Rattle.store_steps.specs.Doing.{ChangesNothing, Did, Part}
use Rattle.store_steps.specs.Standing.{SessionKnown}

-- the first of these tails, if there is one, is no more than that
abbrev pub BeginsBelow : List ℕ → ℕ → Type 0
BeginsBelow [] done = Unit {0}
BeginsBelow (n ∷ ns) done = n ≤ done

-- the session holds nothing, and has its note; it may know more, and may have read the completed tail, and taken something that it put back
pub record IsStill (k after : SessionKnown) : Type 0 where
  pub session : after.session ≡ k.session
  pub held : after.held ≡ []
  pub note : after.note ≡ k.note
  pub extends : Extends k.progress after.progress
  pub well_formed : IsWellFormed store_meaning k.progress → IsWellFormed store_meaning after.progress
  pub more : List ℕ
  pub read : tails_in after.steps ≡ tails_in k.steps ++ more
  pub below : BeginsBelow more after.progress.completed
  pub tries : List (ShelfStep Part)
  pub nothing : ChangesNothing tries
  pub did : Did k after tries

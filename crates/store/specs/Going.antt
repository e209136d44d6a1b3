-- The steps of which the calls of a session are made, as their users see them, if the calls are not refused.
use Rattle.std.specs.Prelude.{◌≡◌, Option, Result, IfOk, IfSome, MatchOption}
use Rattle.oplog.specs.Operations.{Operation}
use Rattle.replica.specs.declared.refusals.StoreRefused.{StoreRefused}
use Rattle.store_steps.specs.Views.{SessionView}
use Rattle.combiner.specs.declared.slots.Reply.{Reply}
use Rattle.store.specs.declared.answers.Answer.{Answer}
use Rattle.store.specs.Sessions.{known_of, said}
use Rattle.store_steps.specs.AtOnce.{UpdatesInHolds}
use Rattle.store_steps.specs.Standing.{SessionKnown}
use Rattle.store_steps.specs.Updating.{CollectsBy, Deeds, PostsBy, UpdatesBy}

-- an update: its session's own, which it posts and waits for, and all that it combines meanwhile
abbrev pub UpdateGoes : (old new : SessionView) → Operation → Result Answer StoreRefused → Type 0
UpdateGoes old new op result = (reply : Reply) × (result ≡ said reply) × UpdatesBy (known_of old) (known_of new) op reply

-- An update by holds of its desk: its session has its first turn in the hold of its post, and hands over what it combines in the hold of its next turn.
-- So it takes four places if no other session combines, apart from tries in vain: the desk, the replica, the log, and the desk again.
abbrev pub UpdateHolds : (old new : SessionView) → Operation → Result Answer StoreRefused → Type 0
UpdateHolds old new op result = (reply : Reply) × (result ≡ said reply) × UpdatesInHolds (known_of old) (known_of new) op reply

-- a post, unless the desk is held
abbrev pub PostGoes : {A : Type 0} → (old new : SessionView) → Operation → Result (Option A) StoreRefused → Type 0
PostGoes old new op result = IfOk result (λ o. IfSome o (λ _. PostsBy (known_of old) (known_of new) op))

-- a call that goes on with an update, deed by deed; where it has the answer, that was collected last
abbrev pub CompleteGoes : (old new : SessionView) → Option (Result Answer StoreRefused) → Type 0
CompleteGoes old new result = MatchOption result (Deeds (known_of old) (known_of new))
    (λ r. (reply : Reply) × (r ≡ said reply) × ((m : SessionKnown) × Deeds (known_of old) m × CollectsBy m (known_of new) reply))

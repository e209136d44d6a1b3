-- A session's run goes on: what it knows of the steps of all sessions.
use Rattle.ownlock.specs.Seats.{Continues, EndsSince}
use Rattle.store_steps.specs.declared.values.Setup.{Setup}
use Rattle.store_steps.specs.Shelving.{store_opening}
use Rattle.store_steps.specs.Standing.{SessionKnown}

-- What k knows of the run has exactly its own steps, and ends with the last of them, since the store was opened with this. `Store::open` says so of
-- its sessions, which know no step, and each call keeps it.
abbrev pub HasOwnRun : Setup → SessionKnown → Type 0
HasOwnRun opening k = EndsSince (store_opening opening) k

-- the run that the session knows has gone on, and has exactly its own steps still, and ends with the last of them
abbrev pub GoneOn : (k after : SessionKnown) → Type 0
GoneOn k after = Continues k.run after.run × ((opening : Setup) → HasOwnRun opening k → HasOwnRun opening after)

use Rattle.accounts.specs.Picks.{put_progress, put_note}
use Rattle.accounts.specs.ReadNotes.{asked_at}
use Rattle.store_steps.specs.Shelving.{session_noting, view_of}
use Rattle.store_steps.proofs.Loaded.{tail_there}
use Rattle.store_steps.proofs.steps.try_hold_ready.Given as goal

-- a read is asked if the replica has all that is completed
abbrev pub ghosts-done : goal.ghosts-done
ghosts-done g a = record { note = asked_at g.A.Asked.read (tail_there a.seat.now.sessions) }

abbrev pub ghosts-put : goal.ghosts-put
ghosts-put g a = record { progress = put_progress a.seat.now.sessions (view_of a.held.value); note = put_note session_noting a.seat.now.sessions (view_of a.held.value) }

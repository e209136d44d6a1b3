use Rattle.accounts.specs.Picks.{put_progress, put_note}
use Rattle.store_steps.specs.Shelving.{session_noting, view_of}
use Rattle.store_steps.proofs.measuring.try_find.Given as goal

abbrev pub ghosts-done : goal.ghosts-done
ghosts-done a = record { note = λ found n. n }

abbrev pub ghosts-put : goal.ghosts-put
ghosts-put a = record { progress = put_progress a.seat.now.sessions (view_of a.held.value); note = put_note session_noting a.seat.now.sessions (view_of a.held.value) }

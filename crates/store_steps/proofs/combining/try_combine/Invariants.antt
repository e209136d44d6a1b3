use Rattle.accounts.specs.Picks.{put_progress, put_note}
use Rattle.store_steps.specs.Shelving.{session_noting, view_of}
use Rattle.store_steps.proofs.combining.try_combine.Given as goal

abbrev pub ghosts-put_by : goal.ghosts-put_by
ghosts-put_by g a = record { progress = put_progress a.seat.now.sessions (view_of a.held.value); note = put_note session_noting a.seat.now.sessions (view_of a.held.value) }

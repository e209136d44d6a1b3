use Rattle.accounts.specs.DeskNotes.{desk_noting}
use Rattle.accounts.specs.Picks.{put_progress, put_note}
use Rattle.store_steps.specs.Shelving.{view_of}
use Rattle.store_steps.proofs.Turning.{deed_in}
use Rattle.store_steps.proofs.visits.turn_and_put.Given as goal

abbrev pub ghosts-put_by : goal.ghosts-put_by
ghosts-put_by a = record { progress = put_progress a.seat.now.sessions (view_of a.held.value); note = put_note (desk_noting view_of (deed_in a.seat.now.sessions a.held.value)) a.seat.now.sessions (view_of a.held.value) }

use Rattle.accounts.specs.DeskNotes.{desk_noting}
use Rattle.accounts.specs.Picks.{put_progress, put_note}
use Rattle.ownlock.specs.Invariant.{first_of}
use Rattle.store_steps.specs.Shelving.{view_of}
use Rattle.store_steps.proofs.Turning.{deed_in}
use Rattle.store_steps.proofs.passing.turn_and_hand_on.Given as goal

abbrev pub ghosts-hand_on : goal.ghosts-hand_on
ghosts-hand_on a = record { progress = put_progress (first_of a.seat.now.sessions) (view_of a.held.value); note = put_note (desk_noting view_of (deed_in (first_of a.seat.now.sessions) a.held.value)) (first_of a.seat.now.sessions) (view_of a.held.value) }

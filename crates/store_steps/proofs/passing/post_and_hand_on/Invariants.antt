use Rattle.accounts.specs.DeskNotes.{PostedThere, desk_noting}
use Rattle.accounts.specs.Picks.{put_progress, put_note}
use Rattle.ownlock.specs.Invariant.{first_of}
use Rattle.store_steps.specs.Shelving.{view_of}
use Rattle.store_steps.proofs.passing.post_and_hand_on.Given as goal

abbrev pub ghosts-hand_on : goal.ghosts-hand_on
ghosts-hand_on a = record { progress = put_progress (first_of a.seat.now.sessions) (view_of a.held.value); note = put_note (desk_noting view_of PostedThere) (first_of a.seat.now.sessions) (view_of a.held.value) }

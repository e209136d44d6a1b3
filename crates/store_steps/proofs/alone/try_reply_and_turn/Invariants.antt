use Rattle.accounts.specs.DeskNotes.{RepliedThere, desk_noting}
use Rattle.accounts.specs.Picks.{put_progress, put_note}
use Rattle.store_steps.specs.Shelving.{view_of}
use Rattle.store_steps.proofs.alone.try_reply_and_turn.Given as goal

abbrev pub ghosts-settle : goal.ghosts-settle
ghosts-settle a = record { progress = put_progress a.seat.now.sessions (view_of a.held.value); note = put_note (desk_noting view_of RepliedThere) a.seat.now.sessions (view_of a.held.value) }

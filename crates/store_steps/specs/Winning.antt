-- The line of its node that a session has won.
use Rattle.std.specs.Prelude.{◌≡◌, ℕ, ◌+◌, ◌*◌}
use Rattle.ownlock.specs.declared.winning.Won.{Won}
use Rattle.ownlock.specs.Words.{IsSpot, won_by}
use Rattle.store_steps.specs.declared.steps.Here.{Here}

-- the place of the desk of the caller's node
abbrev pub desk_place : Here → ℕ
desk_place here = 1 + here.shared.nodes + here.caller.node

-- the session of this slot has won this line of its store's shelf
abbrev pub IsWonBy : Here → Won → Type 0
IsWonBy here won =
    IsSpot here.shared.shelf.now.places won.spot
    × (won.word ≡ won_by (here.caller.node * here.shared.slots + here.caller.slot))

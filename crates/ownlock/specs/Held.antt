-- The place of a value that a session holds, and what a session has won.
use Rattle.std.specs.Prelude.{◌≡◌, ℕ}
use Rattle.ownlock.specs.declared.known.Known.{Known}
use Rattle.ownlock.specs.declared.shelf.Held.{Held}
use Rattle.ownlock.specs.declared.winning.Won.{Won}
use Rattle.ownlock.specs.declared.words.Spot.{Spot}
use Rattle.ownlock.specs.Seats.{IsSession, SeatView, ShelfView}
use Rattle.ownlock.specs.Words.{IsSpot, won_by}

abbrev pub held_spot : {V : Type 0} → Held V → Spot
held_spot held = held.spot

abbrev pub held_place : {V : Type 0} → Held V → ℕ
held_place held = held.spot.place

-- the value is from a place of the shelf
abbrev pub IsFrom : {A V : Type 0} → ShelfView A → Held V → Type 0
IsFrom shelf held = IsSpot shelf.places held.spot

-- the session of the seat has won this line of the shelf
abbrev pub IsBy : {A P N V : Type 0} → ShelfView A → Won → SeatView P N V → Type 0
IsBy {A} {P} {N} {V} shelf won seat =
    IsSpot shelf.places won.spot × ((k : Known P N V) → IsSession seat k → won.word ≡ won_by k.session)

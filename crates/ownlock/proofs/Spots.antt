-- A place of a table.
use Rattle.std.proofs.Common.{◌≡◌, ℕ, ◌<◌, sym, subst, arith}
use Rattle.atomic_table.specs.Seated.{TableId}
use Rattle.ownlock.specs.declared.words.Spot.{Spot}
use Rattle.ownlock.specs.Words.{HasPlace, HasSpot}
use Rattle.ownlock.proofs.Marks.{line_below}

-- its word is there
pub word_inside : (id : TableId) (p word mark : ℕ) → HasPlace id p word mark → word < id.words
word_inside id p word mark h =
    let low = line_below h.0 p h.2.0 in
    let is = h.2.1 in
    let wide = h.1.0 in
    omega (arith, low, is, wide)

-- the place of a spot, by another name for its number
pub spot_at : (id : TableId) (spot : Spot) → HasSpot id spot → (p : ℕ) → p ≡ spot.place
    → HasPlace id p spot.word spot.mark
spot_at id spot h p is = subst (λ z. HasPlace id z spot.word spot.mark) (sym is) h.0

-- What one turn of claiming does. No public clause cites this module.
use Rattle.std.specs.Prelude.{◌≡◌, ℕ, zero, suc, List, [], ◌∷◌, ◌++◌, map, None}
use Rattle.oplog.specs.declared.records.Record.{Record}
use Rattle.combiner.specs.declared.slots.Slot.{Slot}
use Rattle.combiner.specs.Slots.{claimed_slot, requested}
use Rattle.combiner.specs.Desks.{DeskView, BatchView}

-- the request of this slot, session a's, if one is posted there, is the batch's last
pub record ClaimsSlot (x : Slot) (a : ℕ) (old new : BatchView) : Type 0 where
  pub records : new.records ≡ old.records ++ requested a x.count x.stage []
  pub answers : new.answers ≡ old.answers ++ map (λ r. None) (requested a x.count x.stage [])

-- the first n slots are claimed
abbrev pub claimed_up_to : ℕ → List Slot → List Slot
claimed_up_to zero xs = xs
claimed_up_to (suc n) [] = []
claimed_up_to (suc n) (x ∷ xs) = claimed_slot x ∷ claimed_up_to n xs

-- the posted requests of the first n slots, the first of which is session a's
abbrev pub requests_up_to : ℕ → ℕ → List Slot → List Record
requests_up_to a zero xs = []
requests_up_to a (suc n) [] = []
requests_up_to a (suc n) (x ∷ xs) = requested a x.count x.stage (requests_up_to (suc a) n xs)

-- the desk with its first n slots claimed
abbrev pub claimed_to : ℕ → DeskView → DeskView
claimed_to n d = record { node = d.node; slots = claimed_up_to n d.slots }

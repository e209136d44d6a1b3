-- The slot that is in a place, with what is too long for a record among bytes. No public clause cites this module.
use Rattle.std.specs.Prelude.{ℕ, suc, ◌+◌, ◌*◌, Bool, List, [], ◌∷◌, Option, Some, None, if◌then◌else◌}
use Rattle.maps.specs.declared.shapes.TheConstants.{MOST_ARG_LEN}
use Rattle.oplog.specs.Operations.{Operation}
use Rattle.oplog.specs.Laid.{op_in, IsFrom, IsWithin}
use Rattle.combiner.specs.declared.slots.Reply.{Reply}
use Rattle.combiner.specs.declared.slots.Stage.{Stage}
use Rattle.combiner.specs.declared.slots.Stage.TheVariants as stages
use Rattle.combiner.specs.declared.slots.Slot.{Slot}
use Rattle.combiner.specs.declared.places.PlaceStage.{PlaceStage}
use Rattle.combiner.specs.declared.places.PlaceStage.TheVariants.{Empty, Posted, Claimed, Answered}
use Rattle.combiner.specs.declared.places.Place.{Place}
use Rattle.combiner.specs.Slots.{slot, is_empty}

-- the stage, with the operation of a request that is posted, or the reply of one that is answered
abbrev pub stage_in : PlaceStage → Operation → Reply → Stage
stage_in Empty op reply = stages.Empty
stage_in Posted op reply = stages.Posted op
stage_in Claimed op reply = stages.Claimed
stage_in Answered op reply = stages.Answered reply

abbrev pub slot_in : List ℕ → Place → Slot
slot_in beside p = slot (stage_in p.stage (op_in beside p.op) p.reply) p.count

-- the k-th place has what is too long for a record in the k-th room among the first n bytes
abbrev pub IsPlaced : ℕ → ℕ → Place → Type 0
IsPlaced n k p = IsFrom (k * MOST_ARG_LEN) p.op × IsWithin n p.op

-- so has each of these, the first of which is the k-th
abbrev pub ArePlaced : ℕ → ℕ → List Place → Type 0
ArePlaced n k [] = Unit {0}
ArePlaced n k (p ∷ ps) = IsPlaced n k p × ArePlaced n (suc k) ps

-- the slot once this operation is posted there, where it is empty
abbrev pub posted_slot : Operation → Slot → Option Slot
posted_slot op x = if is_empty x.stage then Some (slot (stages.Posted op) x.count) else None

-- 1 for yes, 0 for no
abbrev pub as_number : Bool → ℕ
as_number b = if b then 1 else 0

-- how many of these slots are at a stage that passes the test
abbrev pub how_many : (Stage → Bool) → List Slot → ℕ
how_many test [] = 0
how_many test (x ∷ xs) = as_number (test x.stage) + how_many test xs

-- The slots of a desk: which stages a request goes through.
use Rattle.std.specs.Prelude.{ℕ, suc, Bool, true, false, List, [], ◌∷◌, Option, Some, None}
use Rattle.oplog.specs.declared.records.Record.{Record}
use Rattle.combiner.specs.declared.slots.Reply.{Reply}
use Rattle.combiner.specs.declared.slots.Reply.TheVariants.{Placed, Ended}
use Rattle.combiner.specs.declared.slots.Stage.{Stage}
use Rattle.combiner.specs.declared.slots.Stage.TheVariants.{Empty, Posted, Claimed, Answered}
use Rattle.combiner.specs.declared.slots.Slot.{Slot}
use Rattle.combiner.specs.declared.slots.DeskRefused.{DeskRefused}
use Rattle.combiner.specs.declared.slots.DeskRefused.TheVariants.{SlotBusy, NothingPosted, CombinerAtWork}

abbrev pub slot : Stage → ℕ → Slot
slot stage count = record { stage = stage; count = count }

abbrev pub is_empty : Stage → Bool
is_empty Empty = true
is_empty stage = false

abbrev pub is_posted : Stage → Bool
is_posted (Posted op) = true
is_posted stage = false

abbrev pub is_claimed : Stage → Bool
is_claimed Claimed = true
is_claimed stage = false

-- ---- claiming

-- a combiner takes a request that is posted
abbrev pub claimed_stage : Stage → Stage
claimed_stage (Posted op) = Claimed
claimed_stage stage = stage

abbrev pub claimed_slot : Slot → Slot
claimed_slot x = slot (claimed_stage x.stage) x.count

-- the record of a request that is posted, in front of others: author a, and as many records before it as were counted
abbrev pub requested : ℕ → ℕ → Stage → List Record → List Record
requested a count (Posted op) rs = record { author = a; op = op; seq = count } ∷ rs
requested a count stage rs = rs

-- the requests that are posted in these slots, by ascending slots, the first of which is session a's
abbrev pub requests_from : ℕ → List Slot → List Record
requests_from a [] = []
requests_from a (x ∷ xs) = requested a x.count x.stage (requests_from (suc a) xs)

-- ---- answering

-- a request that is claimed has this answer, if there is one
abbrev pub with_answer : Option Reply → Stage
with_answer (Some reply) = Answered reply
with_answer None = Claimed

-- a claimed request gets its answer
abbrev pub answered_stage : Option Reply → Stage → Stage
answered_stage answer Claimed = with_answer answer
answered_stage answer stage = stage

abbrev pub answered_slot : Option Reply → Slot → Slot
answered_slot answer x = slot (answered_stage answer x.stage) x.count

-- ---- collecting

-- an answer with an index counts
abbrev pub counted : Reply → ℕ → ℕ
counted (Placed index reply) count = suc count
counted Ended count = count

-- ---- refusals

-- the number that a refusal shows after its letter B
abbrev pub refusal_number : DeskRefused → ℕ
refusal_number SlotBusy = 1
refusal_number NothingPosted = 2
refusal_number CombinerAtWork = 3

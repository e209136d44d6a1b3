-- What one turn of answering does. No public clause cites this module.
use Rattle.std.specs.Prelude.{ℕ, zero, suc, ◌+◌, List, [], ◌∷◌, Option, slice_get}
use Rattle.std.specs.Option.{option_and_then}
use Rattle.combiner.specs.declared.slots.Reply.{Reply}
use Rattle.combiner.specs.declared.slots.Stage.{Stage}
use Rattle.combiner.specs.declared.slots.Stage.TheVariants.{Claimed}
use Rattle.combiner.specs.declared.slots.Slot.{Slot}
use Rattle.combiner.specs.Slots.{answered_slot}
use Rattle.combiner.specs.Desks.{DeskView, BatchView}

-- the k-th answer
abbrev pub answer_no : ℕ → List (Option Reply) → Option Reply
answer_no k answers = option_and_then (λ answer. answer) (slice_get answers k)

-- the slot with the batch's k-th answer, if it is claimed
abbrev pub answered_by : BatchView → ℕ → Slot → Slot
answered_by b k x = answered_slot (answer_no k b.answers) x

-- how many answers a slot of this stage takes
abbrev pub uses : Stage → ℕ
uses Claimed = 1
uses stage = 0

-- the answers that are left behind it
abbrev pub behind : Stage → List (Option Reply) → List (Option Reply)
behind Claimed (answer ∷ answers) = answers
behind Claimed [] = []
behind stage answers = answers

-- how many answers the first n slots take
abbrev pub used_by : ℕ → List Slot → ℕ
used_by zero xs = 0
used_by (suc n) [] = 0
used_by (suc n) (x ∷ xs) = uses x.stage + used_by n xs

-- the first n slots are answered, each claimed one by the next answer
abbrev pub answered_up_to : ℕ → List (Option Reply) → List Slot → List Slot
answered_up_to zero answers xs = xs
answered_up_to (suc n) answers [] = []
answered_up_to (suc n) answers (x ∷ xs) = answered_slot (answer_no 0 answers) x ∷ answered_up_to n (behind x.stage answers) xs

-- the desk with its first n slots answered
abbrev pub answered_to : ℕ → List (Option Reply) → DeskView → DeskView
answered_to n answers d = record { node = d.node; slots = answered_up_to n answers d.slots }

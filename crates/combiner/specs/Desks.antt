-- A desk, a batch, and what post, claim, reply and collect make of them.
use Rattle.std.specs.Prelude.{◌≡◌, ℕ, suc, ◌*◌, ◌<◌, ◌==◌, Bool, true, ◌&&◌, not, List, [], ◌∷◌, length, map, replicate, Option, Some, None, slice_get, slice_set, if◌then◌else◌, MatchOption}
use Rattle.std.specs.Option.{option_and_then, option_map}
use Rattle.std.specs.List.{list_any}
use Rattle.oplog.specs.Operations.{Operation}
use Rattle.oplog.specs.declared.records.Record.{Record}
use Rattle.combiner.specs.declared.slots.Reply.{Reply}
use Rattle.combiner.specs.declared.slots.Stage.{Stage}
use Rattle.combiner.specs.declared.slots.Stage.TheVariants.{Empty, Posted, Answered}
use Rattle.combiner.specs.declared.slots.Slot.{Slot}
use Rattle.combiner.specs.declared.slots.DeskRefused.{DeskRefused}
use Rattle.combiner.specs.declared.slots.DeskRefused.TheVariants.{NothingPosted, CombinerAtWork}
use Rattle.combiner.specs.Slots.{slot, is_empty, is_posted, is_claimed, claimed_slot, requests_from, answered_slot, counted}

-- a desk: its node, and its slots
pub record DeskView : Type 0 where
  pub node : ℕ
  pub slots : List Slot

-- a batch: the requests that a combiner claimed, and the answer of each that has one
pub record BatchView : Type 0 where
  pub records : List Record
  pub answers : List (Option Reply)

-- a new desk: no slot has a request, and none was answered
abbrev pub opened_desk : ℕ → ℕ → DeskView
opened_desk node slots = record { node = node; slots = replicate slots (slot Empty 0) }

-- the session of slot 0: those of the other slots follow it
abbrev pub first_author : DeskView → ℕ
first_author d = d.node * length d.slots

abbrev pub with_slot : DeskView → ℕ → Slot → DeskView
with_slot d s x = record { node = d.node; slots = slice_set d.slots s x }

-- ---- post

-- the desk once this operation is posted in slot s, where that is empty
abbrev pub posted : ℕ → Operation → DeskView → Option DeskView
posted s op d = option_and_then (λ x. if is_empty x.stage then Some (with_slot d s (slot (Posted op) x.count)) else None) (slice_get d.slots s)

-- ---- claim

-- a combiner is at work
abbrev pub has_combiner : DeskView → Bool
has_combiner d = list_any (λ x. is_claimed x.stage) d.slots

-- some slot has a request without an answer that no combiner has
abbrev pub has_request : DeskView → Bool
has_request d = list_any (λ x. is_posted x.stage) d.slots

-- why nothing can be claimed
abbrev pub claim_refusal : DeskView → Option DeskRefused
claim_refusal d = if has_combiner d then Some CombinerAtWork else if has_request d then None else Some NothingPosted

-- no slot has a request without an answer
abbrev pub is_idle : DeskView → Bool
is_idle d = not (has_request d) && not (has_combiner d)

-- at slot s this operation is the only request without an answer: it was posted there when there was none
abbrev pub IsOnlyAt : ℕ → Operation → DeskView → Type 0
IsOnlyAt s op d = (before : DeskView) × (is_idle before ≡ true) × (posted s op before ≡ Some d)

-- the posted requests as a batch without answers
abbrev pub batch_of : DeskView → BatchView
batch_of d = record { records = requests_from (first_author d) d.slots; answers = map (λ r. None) (requests_from (first_author d) d.slots) }

-- a batch of this request alone, without its answer, and with this answer
abbrev pub only : Record → BatchView
only r = record { records = r ∷ []; answers = None ∷ [] }

abbrev pub only_answered : Record → Reply → BatchView
only_answered r reply = record { records = r ∷ []; answers = Some reply ∷ [] }

-- the desk once its posted requests are claimed
abbrev pub claimed : DeskView → DeskView
claimed d = record { node = d.node; slots = map claimed_slot d.slots }

-- ---- reply

-- the sessions whose requests are claimed, by ascending slots, the first of which is session a's
abbrev pub claimed_from : ℕ → List Slot → List ℕ
claimed_from a [] = []
claimed_from a (x ∷ xs) = if is_claimed x.stage then a ∷ claimed_from (suc a) xs else claimed_from (suc a) xs

-- the requests of the batch are those that are claimed at the desk
abbrev pub IsBatchOf : DeskView → BatchView → Type 0
IsBatchOf d b = map (λ r. r.author) b.records ≡ claimed_from (first_author d) d.slots

-- the k-th request of the batch has its answer
abbrev pub HasAnswer : BatchView → ℕ → Type 0
HasAnswer b k = (reply : Reply) × (slice_get b.answers k ≡ Some (Some reply))

-- each request of the batch has its answer
abbrev pub IsAnswered : BatchView → Type 0
IsAnswered b = (k : ℕ) → k < length b.records → HasAnswer b k

-- the answer to session a's request, if the batch has one
abbrev pub answer_for : ℕ → List Record → List (Option Reply) → Option Reply
answer_for a (r ∷ rs) (answer ∷ answers) = if r.author == a then answer else answer_for a rs answers
answer_for a rs answers = None

-- each claimed slot, the first of which is session a's, has the answer to its own request
abbrev pub answered_from : ℕ → BatchView → List Slot → List Slot
answered_from a b [] = []
answered_from a b (x ∷ xs) = answered_slot (answer_for a b.records b.answers) x ∷ answered_from (suc a) b xs

-- the desk once the batch is answered
abbrev pub replied : BatchView → DeskView → DeskView
replied b d = record { node = d.node; slots = answered_from (first_author d) b d.slots }

-- ---- collect

-- the answer that waits at this stage
abbrev pub answer_in : Stage → Option Reply
answer_in (Answered reply) = Some reply
answer_in stage = None

-- an answer that was collected, and the desk then
pub record Collection : Type 0 where
  pub reply : Reply
  pub desk : DeskView

-- the answer that waits in slot s, which is empty once it is collected
abbrev pub collected : ℕ → DeskView → Option Collection
collected s d =
    option_and_then (λ x. option_map (λ reply. record { reply = reply; desk = with_slot d s (slot Empty (counted reply x.count)) }) (answer_in x.stage)) (slice_get d.slots s)

-- the answer that waits in slot s, and the desk once it is collected; if none waits, none is taken, and the desk is as it was
abbrev pub TakesAnswer : ℕ → DeskView → DeskView → Option Reply → Type 0
TakesAnswer s old new answer = MatchOption answer ((collected s old ≡ None) × (new ≡ old)) (λ reply. collected s old ≡ Some (record { reply = reply; desk = new }))

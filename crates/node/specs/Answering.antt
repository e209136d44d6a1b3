-- The answers to a batch that is in the log.
use Rattle.std.specs.Prelude.{◌≡◌, ℕ, ◌+◌, ◌<◌, List, [], ◌∷◌, length, Option, Some, slice_get, option_map}
use Rattle.machine.specs.declared.running.Outcome.{Outcome}
use Rattle.oplog.specs.History.{History}
use Rattle.combiner.specs.declared.slots.Reply.{Reply}
use Rattle.combiner.specs.declared.slots.Reply.TheVariants.{Placed, Ended}
use Rattle.combiner.specs.Desks.{BatchView}
use Rattle.replica.specs.Views.{RepliesView}

-- the answers to these requests, the first of which has that index: each that has an index has its outcome, the others came too late
abbrev pub answers_from : ℕ → List (Option Outcome) → History → List (Option Reply)
answers_from index outcomes [] = []
answers_from index [] (r ∷ rs) = Some Ended ∷ answers_from index [] rs
answers_from index (outcome ∷ outcomes) (r ∷ rs) = option_map (λ o. Placed index o.reply) outcome ∷ answers_from (index + 1) outcomes rs

-- the batch with its answers, where these outcomes were kept of it
abbrev pub answered_batch : RepliesView → BatchView → BatchView
answered_batch kept b = record b { answers = answers_from kept.first kept.outcomes b.records }

-- this outcome was kept of the k-th request
abbrev pub HasOutcome : RepliesView → ℕ → Outcome → Type 0
HasOutcome kept k o = slice_get kept.outcomes k ≡ Some (Some o)

-- each request of the batch that has an index has its outcome
abbrev pub HaveRun : RepliesView → BatchView → Type 0
HaveRun kept b = (k : ℕ) → k < length kept.outcomes → k < length b.records → (o : Outcome) × HasOutcome kept k o

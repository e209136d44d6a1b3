-- What a session has that combines the requests of its node, and what it leaves.
use Rattle.std.specs.Prelude.{◌≡◌, ◌<◌, ℕ, [], length}
use Rattle.combiner.specs.Desks.{BatchView}
use Rattle.accounts.specs.Accounts.{Extends}
use Rattle.accounts.specs.Batches.{Ascend}
use Rattle.accounts.specs.Moves.{unplaced}
use Rattle.replica.specs.Views.{RepliesView}
use Rattle.store_steps.specs.AtDesk.{IsReady}
use Rattle.store_steps.specs.Knowing.{LearnsBy}
use Rattle.store_steps.specs.Standing.{SessionKnown, Stands, StoreSeat}
use Rattle.store_steps.specs.Whole.{AnswersBy, CombinesBy, HandsOver}

-- the session combines the requests of this batch, by ascending authors, none of which has a place
pub record HasClaimed (k : SessionKnown) (b : BatchView) : Type 0 where
  pub noted : k.note.batch ≡ unplaced b.records
  pub some : 0 < length b.records
  pub ascend : Ascend b.records

-- the session has what the programs of its batch answer, which were kept, has still to hand the answers over, and holds nothing
pub record HasAnswered (k after : SessionKnown) (b : BatchView) (kept : RepliesView) : Type 0 where
  pub session : after.session ≡ k.session
  pub held : after.held ≡ []
  pub note : record after.note { batch = [] } ≡ record k.note { batch = [] }
  pub extends : Extends k.progress after.progress
  pub ready : IsReady after b kept
  pub stands : Stands after

-- the session has handed all answers of its batch over, and holds nothing
pub record HasCombined (k after : SessionKnown) : Type 0 where
  pub session : after.session ≡ k.session
  pub held : after.held ≡ []
  pub note : after.note ≡ record k.note { batch = [] }
  pub extends : Extends k.progress after.progress
  pub stands : Stands after

-- ---- the same of the seat of the session, and the steps that it took

-- it has appended, run and completed the requests of the batch, with the replica of this node
abbrev pub SessionAnswers : (node : ℕ) (old new : StoreSeat) → BatchView → RepliesView → Type 0
SessionAnswers node old new b kept = LearnsBy old new (λ k after. HasAnswered k after b kept) (λ k after. AnswersBy node k after b kept)

-- it has handed the answers of the batch over at the desk of this node
abbrev pub SessionHandsOver : (node : ℕ) (old new : StoreSeat) → BatchView → RepliesView → Type 0
SessionHandsOver node old new b kept = LearnsBy old new HasCombined (λ k after. HandsOver node k after b kept)

-- it has combined the batch, which has its answers then
abbrev pub SessionCombines : (old new : StoreSeat) → (b answered : BatchView) → Type 0
SessionCombines old new b answered = LearnsBy old new HasCombined (λ k after. CombinesBy k after b answered)

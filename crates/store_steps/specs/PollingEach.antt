-- A list of updates whose sessions wait for nobody: how it stands between two calls, and what each call tells of each member. Member by member that is what
-- is told of a session that is polled by itself.
use Rattle.std.specs.Prelude.{ℕ, zero, suc, List}
use Rattle.ownlock.specs.Seats.{At}
use Rattle.combiner.specs.Desks.{BatchView}
use Rattle.combiner.specs.declared.slots.Reply.{Reply}
use Rattle.replica.specs.Views.{RepliesView}
use Rattle.store_steps.specs.declared.deeds.Deed.TheVariants.{Busy, Collected}
use Rattle.store_steps.specs.declared.deeds.Stage.{Stage}
use Rattle.store_steps.specs.declared.deeds.Stage.TheVariants.{Idle, Asked, Claimed as HasClaimed, Ready as IsReady}
use Rattle.store_steps.specs.declared.pipelines.Member.{Member}
use Rattle.store_steps.specs.declared.polling_each.EachStage.{EachStage}
use Rattle.store_steps.specs.declared.polling_each.EachStage.TheVariants.{Claimed, Ready}
use Rattle.store_steps.specs.declared.steps.Question.{Question}
use Rattle.store_steps.specs.declared.steps.Shared.{Shared}
use Rattle.store_steps.specs.Asking.{asked_op}
use Rattle.store_steps.specs.EachMember.{AllRequested, AscendEach}
use Rattle.store_steps.specs.Knowing.{IsOn, Knows}
use Rattle.store_steps.specs.Polling.{DeedsGo, HasBegun}
use Rattle.store_steps.specs.Stages.{HasGone, IsPolled}
use Rattle.store_steps.specs.Views.{IsIdle}

-- ---- between two calls

-- no list is out: each member is idle
abbrev pub AreIdle : List Member → Type 0
AreIdle members = (j : ℕ) (m : Member) → At j m members → IsIdle m.seat m.caller

-- the session of each member has this shelf and this catalogue
abbrev pub AreOn : Shared → List Member → Type 0
AreOn shared members = (j : ℕ) (m : Member) → At j m members → Knows m.seat (IsOn shared)

-- the stage of the member with this number: the first one combines, and each other one waits for its answer
abbrev pub stage_at : EachStage → ℕ → Stage
stage_at stage (suc j) = Asked
stage_at Claimed zero = HasClaimed
stage_at Ready zero = IsReady

-- a list is out: each member has posted, and the first one has claimed the requests of all, which are in the batch
pub record AreOut (members : List Member) (batch : BatchView) (kept : RepliesView) (stage : EachStage) : Type 0 where
  pub polled : (j : ℕ) (m : Member) → At j m members → IsPolled m.seat m.caller batch kept (stage_at stage j)
  pub ascend : AscendEach members
  pub requests : AllRequested members batch

-- ---- what a call tells

-- each member has posted its call
abbrev pub BeginsEach : (old new : List Member) → List Question → BatchView → RepliesView → EachStage → Type 0
BeginsEach old new calls batch kept stage =
    (j : ℕ) (p q : Member) (asked : Question) → At j p old → At j q new → At j asked calls → HasBegun p.seat q.seat p.caller (asked_op asked) batch kept (stage_at stage j)

-- each member waits for its answer still
abbrev pub WaitsEach : (old new : List Member) → BatchView → RepliesView → EachStage → Type 0
WaitsEach old new batch kept stage =
    (j : ℕ) (p q : Member) → At j p old → At j q new → HasGone DeedsGo p.seat q.seat p.caller batch kept (stage_at stage j) Busy

-- each member has collected its answer, and is idle
abbrev pub CompletesEach : (old new : List Member) → BatchView → RepliesView → List Reply → Type 0
CompletesEach old new batch kept replies =
    (j : ℕ) (p q : Member) → At j p old → At j q new → (reply : Reply) × At j reply replies × HasGone DeedsGo p.seat q.seat p.caller batch kept Idle (Collected reply)

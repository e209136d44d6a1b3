-- Several updates in two holds of a desk: a session has the desk by the very step after another has put it back.
use Rattle.std.specs.Prelude.{ℕ, zero, suc, ◌<◌, List, [], ◌∷◌, length}
use Rattle.ownlock.specs.Seats.{At}
use Rattle.combiner.specs.Desks.{BatchView}
use Rattle.combiner.specs.declared.slots.Reply.{Reply}
use Rattle.replica.specs.Views.{RepliesView}
use Rattle.store_steps.specs.declared.desks.Turn.TheVariants.{Combines as Claims}
use Rattle.store_steps.specs.declared.pipelines.Member.{Member}
use Rattle.store_steps.specs.declared.steps.Question.{Question}
use Rattle.store_steps.specs.Asking.{asked_op}
use Rattle.store_steps.specs.Pipelines.{HasLooked}
use Rattle.store_steps.specs.Standing.{SessionKnown}
use Rattle.store_steps.specs.Updating.{CollectsBy, Deeds, PostsBy, TurnsBy}
use Rattle.store_steps.specs.Views.{first_in, nobody}
use Rattle.store_steps.specs.Visits.{TakesNext}
use Rattle.store_steps.specs.Whole.{AnswersBy, HandsOver}

-- the session of the member with this number
abbrev pub session_at : List Member → ℕ → SessionKnown
session_at [] j = nobody
session_at (m ∷ ms) zero = first_in m.seat.sessions
session_at (m ∷ ms) (suc j) = session_at ms j

-- the first session is this one, and the others are those
abbrev pub with_first : SessionKnown → (ℕ → SessionKnown) → ℕ → SessionKnown
with_first first others zero = first
with_first first others (suc j) = others (suc j)

-- In one hold of their desk each session posted its call, the last one first, and the first one claimed this batch. Each but the last took the desk by the
-- very step after the next one had put it back, and so did the first one again, to claim. By their numbers the sessions are `old` before, and `new` then.
pub record PostsInOneHold (old new : ℕ → SessionKnown) (calls : List Question) (batch : BatchView) : Type 0 where
  -- the first session, once it had posted
  pub first : SessionKnown
  pub posts : (j : ℕ) (q : Question) → At j q calls → PostsBy (old j) (with_first first new j) (asked_op q)
  pub next : (j : ℕ) → suc j < length calls → TakesNext (new (suc j)) (old j) (with_first first new j)
  pub claims : TurnsBy first (new 0) batch Claims
  pub again : TakesNext first first (new 0)

-- In one hold of their desk the first session handed over the answers of its batch, and each session collected its own answer, the first one first. The
-- first one took the desk again, to collect, by the very step after it had put it back, and each later one by the very step after the one before it.
pub record CollectsInOneHold (old new : ℕ → SessionKnown) (batch : BatchView) (kept : RepliesView) (replies : List Reply) : Type 0 where
  -- the first session, once it had handed over the answers, at the desk of this node
  pub given : SessionKnown
  pub node : ℕ
  pub gives : HandsOver node (old 0) given batch kept
  pub collects : (j : ℕ) (reply : Reply) → At j reply replies → CollectsBy (with_first given old j) (new j) reply
  pub again : TakesNext given given (new 0)
  pub next : (j : ℕ) → suc j < length replies → TakesNext (new j) (old (suc j)) (new (suc j))

-- A list that is out goes on: its sessions make some deeds, so many, and then collect in one hold.
pub record GoesOnAndCollects (old new : ℕ → SessionKnown) (replies : List Reply) : Type 0 where
  pub between : ℕ → SessionKnown
  pub deeds : (j : ℕ) → j < length replies → Deeds (old j) (between j)
  pub batch : BatchView
  pub kept : RepliesView
  pub collects : CollectsInOneHold between new batch kept replies

-- A list of updates by four takes in all, apart from tries in vain: after each session has looked for nothing, so often, all post in one hold of their
-- desk; the first one combines, for which it takes its replica and the log; and all collect in another hold.
pub record UpdatesInTwoHolds (old new : ℕ → SessionKnown) (calls : List Question) (replies : List Reply) : Type 0 where
  pub looked : ℕ → SessionKnown
  pub looks : (j : ℕ) → j < length calls → HasLooked (old j) (looked j)
  pub posted : ℕ → SessionKnown
  pub batch : BatchView
  pub posts : PostsInOneHold looked posted calls batch
  pub answered : SessionKnown
  pub node : ℕ
  pub kept : RepliesView
  pub answers : AnswersBy node (posted 0) answered batch kept
  pub collects : CollectsInOneHold (with_first answered posted) new batch kept replies

-- Several sessions of one node in one hand, which wait for nobody: how they stand between their calls, and what those tell.
use Rattle.std.specs.Prelude.{◌≡◌, ℕ, ◌-◌, ◌<◌, ◌≤◌, List, ◌++◌, length, map, take, drop, Some, None, Option, Result, MatchOption, MatchResult}
use Rattle.ownlock.specs.Seats.{At}
use Rattle.loader.specs.Installed.{InstalledView}
use Rattle.oplog.specs.declared.configuration.Sizes.{Sizes}
use Rattle.combiner.specs.Desks.{BatchView}
use Rattle.combiner.specs.declared.slots.Reply.{Reply}
use Rattle.replica.specs.Views.{RepliesView}
use Rattle.replica.specs.declared.refusals.StoreRefused.{StoreRefused}
use Rattle.accounts.specs.declared.sessions.Pending.{Pending}
use Rattle.store_steps.specs.declared.batches.Room.{Room}
use Rattle.store_steps.specs.declared.pipelines.Member.{Member}
use Rattle.store_steps.specs.declared.polling_each.EachStage.{EachStage}
use Rattle.store_steps.specs.declared.steps.Caller.{Caller}
use Rattle.store_steps.specs.declared.steps.Question.{Question}
use Rattle.store_steps.specs.declared.questions.QuestionRefused.{QuestionRefused}
use Rattle.store_steps.specs.Asking.{asked_op}
use Rattle.store_steps.specs.EachMember.{AscendEach, InOrder, LooksEach}
use Rattle.store_steps.specs.Holds.{GoesOnAndCollects, PostsInOneHold, session_at}
use Rattle.store_steps.specs.Pipelines.{HasLooked, SameSpots}
use Rattle.store_steps.specs.Polling.{BeginsBy, HasAskedFor}
use Rattle.store_steps.specs.PollingEach.{AreIdle, AreOut, BeginsEach, CompletesEach, WaitsEach}
use Rattle.store_steps.specs.Views.{IsIdle, SessionView}
use Rattle.store.specs.declared.answers.Answer.{Answer}
use Rattle.store.specs.Going.{CompleteGoes}
use Rattle.store.specs.Pipelines.{IsOnNode, known_at}
use Rattle.store.specs.Polled.{TellsCompleted}
use Rattle.store.specs.Sessions.{HasRoom, known_of, said}

-- ---- between their calls

-- the first sessions, so many, have a list out, and the others are idle; all are of one node, by ascending slots, each with its room for a program
pub record AreListed (members : List Member) (rooms : List InstalledView) (posted : ℕ) (batch : BatchView) (kept : RepliesView) (stage : EachStage) : Type 0 where
  pub out : 0 < posted → AreOut (take posted members) batch kept stage
  pub idle : (j : ℕ) (m : Member) → posted ≤ j → At j m members → IsIdle m.seat m.caller
  pub within : posted ≤ length members
  pub count : length rooms ≡ length members
  pub rooms_are : (j : ℕ) (m : Member) (r : InstalledView) → At j m members → At j r rooms → HasRoom r m.seat
  pub few : length members ≤ 16
  pub near : (i j : ℕ) (m n : Member) → At i m members → At j n members → m.caller.node ≡ n.caller.node
  pub ascend : AscendEach members

-- the first sessions, so many, wait for an answer, and the others do not
abbrev pub AreWaiting : ℕ → List SessionView → Type 0
AreWaiting count sessions = (j : ℕ) (s : SessionView) → At j s sessions → (j < count → (o : Pending) × (s.note.pending ≡ Some o)) × (count ≤ j → s.note.pending ≡ None)

-- a session may come after these: there is room, and it is of their node, and of a higher slot
pub record MayFollow (config : Sizes) (sessions : List SessionView) (s : SessionView) : Type 0 where
  pub room : length sessions < 16
  pub near : (j : ℕ) (t : SessionView) → At j t sessions → (node : ℕ) × IsOnNode config node t × IsOnNode config node s
  pub above : (j : ℕ) (t : SessionView) → At j t sessions → t.session < s.session

-- so it is by the last of their slots
pub record Follows (members : List Member) (caller : Caller) : Type 0 where
  pub room : length members < 16
  pub last : (m : Member) → At (length members - 1) m members → (m.caller.node ≡ caller.node) × (m.caller.slot < caller.slot)

-- ---- what their calls tell

-- each session has only looked at its desk
abbrev pub EachLooks : (old new : List SessionView) → Type 0
EachLooks old new = (j : ℕ) (s t : SessionView) → At j s old → At j t new → HasLooked (known_of s) (known_of t)

-- the session of each call's number has posted the call
abbrev pub EachAsks : (old new : List SessionView) → List Question → Type 0
EachAsks old new calls =
    (j : ℕ) (s t : SessionView) (q : Question) → At j s old → At j t new → At j q calls → HasAskedFor s t (asked_op q) × BeginsBy (known_of s) (known_of t) (asked_op q)

-- a list that isn't refused: where the desk is held, or a session combines there, nothing is posted; else each call is, once
abbrev pub TellsListed : {A : Type 0} → (old new : List SessionView) → List Question → Result (Option A) QuestionRefused → Type 0
TellsListed old new calls result = MatchResult result (λ o. MatchOption o (EachLooks old new) (λ _. EachAsks old new calls)) (λ _. ⊥)

-- the session that waited for this answer has it, or waits still
abbrev pub IsTold : (old new : SessionView) → Pending → Option (Result Answer StoreRefused) → Type 0
IsTold old new o told = TellsCompleted old new o told × CompleteGoes old new told

-- each session that waited has the answer of its number; or each waits still
abbrev pub EachIsTold : {A : Type 0} → (old new : List SessionView) → List (Result Answer StoreRefused) → Option A → Type 0
EachIsTold old new answers result =
    (j : ℕ) (s t : SessionView) (o : Pending) → At j s old → At j t new → s.note.pending ≡ Some o
    → MatchOption result (IsTold s t o None) (λ _. (a : Result Answer StoreRefused) × At j a answers × IsTold s t o (Some a))

-- the sessions of the calls' numbers have posted in one hold of their desk, and the first one has claimed them all
abbrev pub PostedAtOnce : (old new : List SessionView) → List Question → Type 0
PostedAtOnce old new calls = (batch : BatchView) × PostsInOneHold (known_at old) (known_at new) calls batch

-- the sessions of the answers' numbers have collected them in one hold of their desk, in which the first one handed them over
abbrev pub CollectedAtOnce : (old new : List SessionView) → List (Result Answer StoreRefused) → Type 0
CollectedAtOnce old new answers = (replies : List Reply) × (answers ≡ map said replies) × GoesOnAndCollects (known_at old) (known_at new) replies

-- ---- what their first members do

-- the first members, so many, are these now, and the others are as they were
pub record SetsFirst (count : ℕ) (old new now : List Member) : Type 0 where
  pub long : length now ≡ count
  pub is : new ≡ now ++ drop count old
  pub same : SameSpots (take count old) now

-- they have only looked
pub record LooksFirst (old new : List Member) (count : ℕ) : Type 0 where
  pub now : List Member
  pub sets : SetsFirst count old new now
  pub looks : LooksEach (take count old) now
  pub idle : AreIdle now

-- they have posted their calls
pub record BeginsFirst (old new : List Member) (calls : List Question) (room : Room) (stage : EachStage) : Type 0 where
  pub now : List Member
  pub sets : SetsFirst (length calls) old new now
  pub out : AreOut now room.batch room.replies stage
  pub begins : BeginsEach (take (length calls) old) now calls room.batch room.replies stage
  pub held : PostsInOneHold (session_at (take (length calls) old)) (session_at now) calls room.batch

-- they wait still
pub record WaitsFirst (old new : List Member) (count : ℕ) (room : Room) (stage : EachStage) : Type 0 where
  pub now : List Member
  pub sets : SetsFirst count old new now
  pub out : AreOut now room.batch room.replies stage
  pub waits : WaitsEach (take count old) now room.batch room.replies stage

-- they have collected their answers
pub record FinishesFirst (old new : List Member) (count : ℕ) (room : Room) (replies : List Reply) : Type 0 where
  pub now : List Member
  pub sets : SetsFirst count old new now
  pub completes : CompletesEach (take count old) now room.batch room.replies replies
  pub in_order : InOrder replies
  pub held : GoesOnAndCollects (session_at (take count old)) (session_at now) replies

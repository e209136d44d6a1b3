-- What a call on a lane's handle tells.
use Rattle.std.specs.Prelude.{◌≡◌, ℕ, ◌<◌, ◌≤◌, List, [], ◌∷◌, ◌++◌, None, Some, Result, Ok, Err, IfSome, MatchOption, length, map, drop}
use Rattle.ownlock.specs.Seats.{At}
use Rattle.verifier.specs.declared.refusal.Mode.TheVariants.{Update}
use Rattle.replica.specs.Refusals.{store_fault_number}
use Rattle.replica.specs.declared.refusals.StoreRefused.{StoreRefused}
use Rattle.store_steps.specs.Questions.{first_refused_in}
use Rattle.store_steps.specs.Views.{SessionView}
use Rattle.store_steps.specs.declared.steps.Question.{Question}
use Rattle.store_steps.specs.declared.questions.QuestionRefused.{QuestionRefused}
use Rattle.store.specs.declared.answers.Answer.{Answer}
use Rattle.store.specs.Pipelines.{AreInOrder, EachGoesOn, OthersStay}
use Rattle.store.specs.PolledPipelines.{AreWaiting, EachAsks, EachIsTold, EachLooks, MayFollow}
use Rattle.store.specs.Sessions.{StoreView}
use Rattle.host_calls.specs.declared.attached.Attached.{Attached}
use Rattle.host_calls.specs.declared.handles.LaneAnswered.{LaneAnswered}
use Rattle.host_calls.specs.declared.handles.LaneHandle.{LaneHandle}
use Rattle.host_calls.specs.declared.handles.Outcome.{Outcome}
use Rattle.host_calls.specs.declared.handles.SessionHandle.{SessionHandle}
use Rattle.host_calls.specs.declared.lanes.Lane.{Lane}
use Rattle.host_calls.specs.declared.lanes.Listed.{Listed}
use Rattle.host_calls.specs.declared.lanes.Listed.TheVariants.{Busy, Again, Answered, Refused, NotOpen, NoWord}
use Rattle.host_calls.specs.Statuses.{again, busy, done, ended, is_out, no_memory, no_word, not_open, not_ours, refusal, letter_S}
use Rattle.host_calls.specs.Views.{AttachedView, IsSame}
use Rattle.host_calls.specs.Words.{HasNewWords, only_lane}

-- the sessions of a lane
abbrev pub sessions_in : List AttachedView → List SessionView
sessions_in lane = map (λ (a : AttachedView). a.session) lane

-- all sessions are of this store
abbrev pub AreOneLane : StoreView → List AttachedView → Type 0
AreOneLane store lane = (j : ℕ) (a : AttachedView) → At j a lane → a.store ≡ store

-- no list is out
abbrev pub IsIdleLane : List AttachedView → Type 0
IsIdleLane lane = AreWaiting 0 (sessions_in lane)

-- the same sessions, each of the same store and from the same place
pub record AreSame (old new : List AttachedView) : Type 0 where
  pub count : length new ≡ length old
  pub each : (j : ℕ) (a b : AttachedView) → At j a old → At j b new → IsSame a b

-- a new handle has a lane without sessions; or none, where there is no memory
abbrev pub IsNewLane : LaneHandle → Type 0
IsNewLane given =
    MatchOption given.own (given.answered ≡ only_lane no_memory) (λ l. (l ≡ []) × (given.answered ≡ only_lane done))

-- the handle has no lane any more, and its words stay
pub record Ends (before after : LaneHandle) : Type 0 where
  pub own : after.own ≡ None
  pub answered : after.answered ≡ before.answered

-- ---- join

-- the session may come after the others: it is of their store and their node, of a higher slot, and there is room
abbrev pub MayJoin : List AttachedView → AttachedView → Type 0
MayJoin lane a = AreOneLane a.store lane × MayFollow a.store.config (sessions_in lane) a.session

-- ---- a list

-- what became of an update
abbrev pub outcome_of : Result Answer StoreRefused → Outcome
outcome_of (Ok a) = record { point = a.index; reply = a.reply; status = done }
outcome_of (Err why) = record { point = 0; reply = 0; status = ended }

-- the first outcomes are those of the answers, and the others as they were
abbrev pub has_outcomes : List (Result Answer StoreRefused) → List Outcome → List Outcome
has_outcomes answers before = map outcome_of answers ++ drop (length answers) before

-- each session that waited has the answer of its number, and later answers have higher indexes; or each waits still
abbrev pub TellsOutList : List Outcome → List Outcome → (old new : List SessionView) → ℕ → Listed → Type 0
TellsOutList before after old new count (Answered n) =
    (answers : List (Result Answer StoreRefused)) × (length answers ≡ count) × (n ≡ count) × (after ≡ has_outcomes answers before)
    × EachIsTold {A = Unit {0}} old new answers (Some tt) × AreInOrder answers
TellsOutList before after old new count Again = (after ≡ before) × EachIsTold {A = Unit {0}} old new [] None
TellsOutList before after old new count told = ⊥

-- a list that isn't refused: each session has only looked, where another was in the way; else each call is posted, once, by the session of its number,
-- and then they go on with it
abbrev pub TellsNewList : StoreView → List Question → List Outcome → List Outcome → (old new : List SessionView)
    → Listed → Type 0
TellsNewList store calls before after old new Busy = (after ≡ before) × EachLooks old new
TellsNewList store calls before after old new told =
    (posted : List SessionView) × EachGoesOn store old posted × EachAsks old posted calls × EachGoesOn store posted new
    × TellsOutList before after posted new (length calls) told

-- of no list that is out
abbrev pub TellsBegun : StoreView → List Question → List Outcome → List Outcome → (old new : List SessionView)
    → Listed → Type 0
TellsBegun store calls before after old new told =
    MatchOption (first_refused_in Update store.catalogue 0 calls) (TellsNewList store calls before after old new told)
    (λ (why : QuestionRefused). (told ≡ Refused (refusal letter_S (store_fault_number why.refused)) why.number) × (after ≡ before) × (new ≡ old))

-- nothing has changed, and this is told
abbrev pub TellsNoList : List Outcome → List Outcome → (old new : List AttachedView) → (told words : Listed) → Type 0
TellsNoList before after old new told words = (told ≡ words) × (after ≡ before) × (new ≡ old)

-- there is a session for each, and room for what becomes of it
abbrev pub HasRoomFor : List Question → List Outcome → List AttachedView → Type 0
HasRoomFor asked before old = (length asked ≤ length old) × (length asked ≤ length before)

-- the whole: by whether a list is out, which has so many calls
pub record TellsList (asked : List Question) (before after : List Outcome) (old new : List AttachedView) (told : Listed) : Type 0 where
  pub out : ℕ
  pub waiting : AreWaiting out (sessions_in old) × (out ≤ length old)
  pub same : AreSame old new
  pub goes_on : 0 < out → out ≤ length before
      → OthersStay out (sessions_in old) (sessions_in new) × TellsOutList before after (sessions_in old) (sessions_in new) out told
      × ((store : StoreView) → AreOneLane store old → EachGoesOn store (sessions_in old) (sessions_in new))
  pub short : 0 < out → length before < out → TellsNoList before after old new told NoWord
  pub begins : out ≡ 0 → 0 < length asked → HasRoomFor asked before old
      → OthersStay (length asked) (sessions_in old) (sessions_in new)
      × ((store : StoreView) → AreOneLane store old → EachGoesOn store (sessions_in old) (sessions_in new) × TellsBegun store asked before after (sessions_in old) (sessions_in new) told)
  pub none : out ≡ 0 → length asked ≡ 0 → TellsNoList before after old new told (Answered 0)
  pub long : out ≡ 0 → (HasRoomFor asked before old → ⊥) → TellsNoList before after old new told NoWord

-- ---- what is written

abbrev pub list_status : Listed → ℕ
list_status Busy = busy
list_status Again = again
list_status (Answered count) = done
list_status (Refused status number) = status
list_status NotOpen = not_open
list_status NoWord = no_word

-- the number of the update that is refused
abbrev pub list_number : Listed → ℕ
list_number (Refused status number) = number
list_number told = 0

abbrev pub with_count : LaneAnswered → Listed → LaneAnswered
with_count before (Answered count) = record before { count = count }
with_count before told = before

abbrev pub list_noted : LaneAnswered → Listed → LaneAnswered
list_noted before told = record (with_count before told) { status = list_status told; slot = list_number told }

-- ---- by a handle

pub record UpdatesEach (asked : List Question) (outcomes given : List Outcome) (before after : LaneHandle) : Type 0 where
  pub told : Listed
  pub noted : after.answered ≡ list_noted before.answered told
  pub tells : MatchOption before.own ((told ≡ NotOpen) × (after.own ≡ None) × (given ≡ outcomes)) (λ l. MatchOption after.own ⊥ (λ l'. TellsList asked outcomes given l l' told))

-- of the words that are answered, none but the status is another
abbrev pub IsStatusAlone : (before after : LaneAnswered) → Type 0
IsStatusAlone before after = after ≡ record before { status = after.status }

-- the sessions of both handles, where they have some, are of one store
abbrev pub JoinsOneStore : LaneHandle → SessionHandle → Type 0
JoinsOneStore h session = IfSome h.own (λ (l : Lane). IfSome session.own (λ (a : Attached). AreOneLane a.store l))

-- both are as they were, for this reason
abbrev pub StaysOut : (lane now : List AttachedView) → (session left : SessionHandle) → (status why : ℕ) → Type 0
StaysOut lane now session left status why = (now ≡ lane) × (left ≡ session) × (status ≡ why)

-- nothing is out for the session, nor for the lane
abbrev pub AreIdleBoth : List AttachedView → AttachedView → Type 0
AreIdleBoth lane a = IsIdleLane lane × (a.session.note.pending ≡ None)

-- then the session, which may come after the others, is the lane's last one now, and its handle is closed; or it may not, and both are as they were
abbrev pub JoinsIdle : (lane now : List AttachedView) → AttachedView → (session left : SessionHandle) → ℕ → Type 0
JoinsIdle lane now a session left status =
    MatchOption left.own (MayJoin lane a × (now ≡ lane ++ a ∷ []) × (left ≡ record session { own = None }) × (status ≡ done))
    (λ b. (MayJoin lane a → ⊥) × StaysOut lane now session left status not_ours)

pub record JoinsTo (lane now : List AttachedView) (a : AttachedView) (session left : SessionHandle) (status : ℕ) : Type 0 where
  pub idle : AreIdleBoth lane a → JoinsIdle lane now a session left status
  pub out : (AreIdleBoth lane a → ⊥) → StaysOut lane now session left status is_out

pub record Joins (before : LaneHandle) (session : SessionHandle) (after : LaneHandle) (left : SessionHandle) : Type 0 where
  pub answered : IsStatusAlone before.answered after.answered
  pub joins : MatchOption before.own ((after.own ≡ None) × (left ≡ session) × (after.answered.status ≡ not_open))
      (λ l. MatchOption after.own ⊥ (λ l'. MatchOption session.own (StaysOut l l' session left after.answered.status not_open) (λ a. JoinsTo l l' a session left after.answered.status)))

-- the lane's last session is at this handle now; or there is none
abbrev pub LeavesIdle : (lane now : List AttachedView) → SessionHandle → ℕ → Type 0
LeavesIdle lane now given status = MatchOption given.own ((lane ≡ []) × (now ≡ []) × (status ≡ not_open)) (λ a. (lane ≡ now ++ a ∷ []) × (status ≡ done))

pub record LeavesFrom (lane now : List AttachedView) (given : SessionHandle) (status : ℕ) : Type 0 where
  pub idle : IsIdleLane lane → LeavesIdle lane now given status
  pub out : (IsIdleLane lane → ⊥) → (given.own ≡ None) × (now ≡ lane) × (status ≡ is_out)

pub record Leaves (before after : LaneHandle) (given : SessionHandle) : Type 0 where
  pub answered : IsStatusAlone before.answered after.answered
  pub words : HasNewWords given after.answered.status
  pub leaves : MatchOption before.own ((after.own ≡ None) × (given.own ≡ None) × (after.answered.status ≡ not_open))
      (λ l. MatchOption after.own ⊥ (λ l'. LeavesFrom l l' given after.answered.status))

-- What the members of a pipeline do in a hold of their desk.
use Rattle.std.specs.Prelude.{◌≡◌, ℕ, ◌<◌, List, length, Some}
use Rattle.ownlock.specs.Seats.{At}
use Rattle.ownlock.specs.declared.shelf.Held.{Held}
use Rattle.oplog.specs.Operations.{Operation}
use Rattle.oplog.specs.declared.records.Record.{Record}
use Rattle.combiner.specs.Desks.{BatchView, DeskView}
use Rattle.combiner.specs.declared.slots.Reply.{Reply}
use Rattle.combiner.specs.declared.slots.Reply.TheVariants.{Placed}
use Rattle.accounts.specs.declared.sessions.Pending.{Pending}
use Rattle.replica.specs.Views.{RepliesView}
use Rattle.store_steps.specs.declared.desks.Turn.TheVariants.{Combines}
use Rattle.store_steps.specs.declared.pipelines.Member.{Member}
use Rattle.store_steps.specs.declared.steps.Question.{Question}
use Rattle.store_steps.specs.declared.steps.Shared.{Shared}
use Rattle.store_steps.specs.declared.values.Value.{Value}
use Rattle.store_steps.specs.Asking.{asked_op}
use Rattle.store_steps.specs.AtDesk.{HasAsked}
use Rattle.store_steps.specs.AtOnce.{IsAlone, MayHandOver, StillWaits}
use Rattle.store_steps.specs.Combining.{HasAnswered, HasCombined}
use Rattle.store_steps.specs.Holds.{CollectsInOneHold, PostsInOneHold, session_at}
use Rattle.store_steps.specs.Lending.{desk_of}
use Rattle.store_steps.specs.Pipelines.{AreCalls, AreMembers, Asks, CollectsAt, HasDesk, HasLooked, KnownAt, MayAskAt, PostsAt, SameSpots, WaitsAt, here_of}
use Rattle.store_steps.specs.Requests.{HasCompleted, HasPosted, HasTurned}
use Rattle.store_steps.specs.Standing.{SessionKnown, StoreSeat}
use Rattle.store_steps.specs.Updating.{PostsBy, TurnsBy, UpdatesBy}
use Rattle.store_steps.specs.Visits.{PutsBack, TakesNext}
use Rattle.store_steps.specs.Whole.{AnswersBy, HandsOver}

-- some record is this author's
abbrev pub HasRecordOf : List Record → ℕ → Type 0
HasRecordOf rs a = (i : ℕ) × (r : Record) × At i r rs × (r.author ≡ a)

-- ---- the first hold

-- whoever asks at the desk has its request in the batch
abbrev pub KeepsAsks : Held Value → BatchView → Type 0
KeepsAsks h batch = (x : DeskView) (f : SessionKnown) → desk_of h.value ≡ Some x → Asks x f → HasRecordOf batch.records f.session

-- the first member has posted, and claimed the batch
pub record ClaimsAt (members : List Member) (f : SessionKnown) (op : Operation) (batch : BatchView) : Type 0 where
  pub asked : SessionKnown
  pub posted : HasPosted f asked op
  pub posts : PostsBy f asked op
  pub after : SessionKnown
  pub is : KnownAt members 0 after
  pub turned : HasTurned asked after posted.request batch Combines
  pub turns : TurnsBy asked after batch Combines
  pub own : HasRecordOf batch.records f.session
  -- it had its desk again by the very step after its post
  pub again : TakesNext asked asked after

-- whichever session had the desk as the first member has posted and claimed
abbrev pub ClaimsFirst : Shared → (old new : List Member) → Operation → StoreSeat → Held Value → BatchView → Type 0
ClaimsFirst shared old new op s h batch =
    (member : Member) (f t : SessionKnown) → At 0 member old → HasDesk s (here_of shared member) h f t → IsAlone f → (c : ClaimsAt new f op batch) × PutsBack t c.asked

-- all other members are as they were
abbrev pub IsSetFirst : (old new : List Member) → Type 0
IsSetFirst old new = SameSpots old new × ((j : ℕ) (member : Member) → 0 < j → At j member old → At j member new)

-- each member may post its call
pub record MayPostEach (shared : Shared) (all : List Member) (asked : List Question) : Type 0 where
  pub members : AreMembers shared.shelf.now.id all
  pub some : 0 < length asked
  pub count : length all ≡ length asked
  pub idle : (j : ℕ) → MayAskAt shared all j
  pub calls : AreCalls shared.catalogue.now asked

-- each member has only looked
abbrev pub LooksEach : (old new : List Member) → Type 0
LooksEach old new = (j : ℕ) (k : SessionKnown) → KnownAt old j k → (after : SessionKnown) × KnownAt new j after × HasLooked k after

-- each member has posted its call, and the first one has claimed them all
pub record PostsEach (old new : List Member) (calls : List Question) (batch : BatchView) : Type 0 where
  pub first : (k : SessionKnown) (q : Question) → At 0 q calls → KnownAt old 0 k → ClaimsAt new k (asked_op q) batch
  pub others : (j : ℕ) (k : SessionKnown) (q : Question) → 0 < j → At j q calls → KnownAt old j k → PostsAt new j k (asked_op q)
  pub requests : (j : ℕ) (k : SessionKnown) → KnownAt old j k → HasRecordOf batch.records k.session
  pub held : PostsInOneHold (session_at old) (session_at new) calls batch

-- each member has looked, and then posted its call, and the first one has claimed them all
pub record LooksAndPosts (old new : List Member) (calls : List Question) (batch : BatchView) : Type 0 where
  pub mid : List Member
  pub spots : SameSpots old mid
  pub looks : LooksEach old mid
  pub posts : PostsEach mid new calls batch

-- ---- the second hold

-- the first member has what the programs of its batch answer
abbrev pub ReadyFirst : Shared → List Member → BatchView → RepliesView → Type 0
ReadyFirst shared members batch kept = (member : Member) → At 0 member members → MayHandOver member.seat member.caller shared batch kept

-- the sessions of later members have higher numbers
abbrev pub AscendEach : List Member → Type 0
AscendEach members = (i j : ℕ) (f g : SessionKnown) → i < j → KnownAt members i f → KnownAt members j g → f.session < g.session

-- each member has a request in the batch
abbrev pub AllRequested : List Member → BatchView → Type 0
AllRequested members batch = (j : ℕ) (k : SessionKnown) → KnownAt members j k → HasRecordOf batch.records k.session

-- the first member has what the programs of its batch answer, and each member waits for an answer and has a request in the batch
pub record MayGive (shared : Shared) (members : List Member) (batch : BatchView) (kept : RepliesView) : Type 0 where
  pub ready : ReadyFirst shared members batch kept
  pub waits : (j : ℕ) → 0 < j → WaitsAt shared members j
  pub ascend : AscendEach members
  pub requests : AllRequested members batch

-- the members have posted, and the first one has what the programs of its batch answer
pub record CombinesEach (old new : List Member) (calls : List Question) (batch : BatchView) (kept : RepliesView) : Type 0 where
  pub posted : List Member
  pub posts : LooksAndPosts old posted calls batch
  pub first : (member : Member) (k : SessionKnown) → At 0 member old → KnownAt posted 0 k → (a : SessionKnown) × KnownAt new 0 a × HasAnswered k a batch kept × AnswersBy member.caller.node k a batch kept
  pub others : (j : ℕ) (k : SessionKnown) → 0 < j → KnownAt posted j k → KnownAt new j k

-- of the answers with an index, those of later members have higher ones
abbrev pub InOrder : List Reply → Type 0
InOrder replies = (i j a b x y : ℕ) → i < j → At i (Placed a x) replies → At j (Placed b y) replies → a < b

-- the first member has answered its batch, and each has collected its answer
pub record GivesEach (old new : List Member) (batch : BatchView) (kept : RepliesView) (replies : List Reply) : Type 0 where
  pub first : (member : Member) (k : SessionKnown) (o : Pending) → At 0 member old → KnownAt old 0 k → StillWaits k o
      → (combined : SessionKnown) × (reply : Reply) × At 0 reply replies × HasCombined k combined × HandsOver member.caller.node k combined batch kept × CollectsAt new 0 combined o reply
  pub others : (j : ℕ) (k : SessionKnown) (o : Pending) → 0 < j → KnownAt old j k → HasAsked k o → (reply : Reply) × At j reply replies × CollectsAt new j k o reply
  pub in_order : InOrder replies
  pub held : CollectsInOneHold (session_at old) (session_at new) batch kept replies

-- ---- the whole call

-- the j-th member has posted this operation, after it may have looked at its desk, and has this answer
pub record AsksFor (members : List Member) (j : ℕ) (k : SessionKnown) (op : Operation) (reply : Reply) : Type 0 where
  pub asked : SessionKnown
  pub posted : HasPosted k asked op
  pub after : SessionKnown
  pub is : KnownAt members j after
  pub completed : HasCompleted asked after posted.request reply
  pub looked : SessionKnown
  pub looks : HasLooked k looked
  pub goes : UpdatesBy looked after op reply
  -- only the first member combines: a later one has no turn between its post and its answer
  pub alone : 0 < j → goes.completes.waited ≡ goes.asked

-- each member has posted its call, and has its answer
abbrev pub AsksEach : (old new : List Member) → List Question → List Reply → Type 0
AsksEach old new calls replies = (j : ℕ) (k : SessionKnown) (q : Question) → KnownAt old j k → At j q calls → (reply : Reply) × At j reply replies × AsksFor new j k (asked_op q) reply

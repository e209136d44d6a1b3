-- A post and the turn after it in one hold of the desk.
use Rattle.std.specs.Prelude.{◌≡◌, ℕ, suc, ◌<◌, ◌^◌, [], length, Some}
use Rattle.ownlock.specs.Seats.{IsSession}
use Rattle.oplog.specs.Operations.{Operation}
use Rattle.combiner.specs.Desks.{BatchView}
use Rattle.combiner.specs.declared.slots.Reply.{Reply}
use Rattle.store_steps.specs.declared.desks.Turn.{Turn}
use Rattle.store_steps.specs.declared.desks.Turn.TheVariants.{Collects, Combines, Waits}
use Rattle.store_steps.specs.declared.steps.Caller.{Caller}
use Rattle.store_steps.specs.declared.steps.Shared.{Shared}
use Rattle.accounts.specs.declared.sessions.Pending.{Pending}
use Rattle.accounts.specs.Moves.{IsAtRest}
use Rattle.replica.specs.Views.{RepliesView}
use Rattle.accounts.specs.Accounts.{Extends}
use Rattle.store_steps.specs.AtDesk.{HasAsked, IsReady}
use Rattle.store_steps.specs.Combining.{HasCombined}
use Rattle.store_steps.specs.Whole.{AnswersBy, HandsOver}
use Rattle.store_steps.specs.Knowing.{IsOn, Knows}
use Rattle.store_steps.specs.Requests.{HasCompleted, HasPosted, HasTurned}
use Rattle.store_steps.specs.Standing.{SessionKnown, StoreSeat, IsFree, Stands}
use Rattle.store_steps.specs.Updating.{CompletesBy, PostsBy, Rounds, TurnsBy}
use Rattle.store_steps.specs.Visits.{TakesNext}

-- the session waits for no answer, combines for nobody, and has had fewer answers than a word can count
pub record IsAlone (k : SessionKnown) : Type 0 where
  pub rests : IsAtRest k.note
  pub alone : k.note.batch ≡ []
  pub few : suc (length k.note.answered) < 2 ^ 64

-- the seat is one session of this store, that of the caller's slot, which holds nothing, and may ask
abbrev pub MayAsk : StoreSeat → Caller → Shared → Type 0
MayAsk s caller shared = (k : SessionKnown) × IsSession s k × IsFree caller k × IsAlone k × IsOn shared k

-- its session has posted the operation, and had a turn then, as if it had put the desk back and taken it again between
pub record PostsAndTurns (old new : StoreSeat) (k : SessionKnown) (op : Operation) (batch : BatchView) (turn : Turn) : Type 0 where
  pub asked : SessionKnown
  pub posted : HasPosted k asked op
  pub posts : PostsBy k asked op
  pub after : SessionKnown
  pub is : IsSession new after
  pub turned : HasTurned asked after posted.request batch turn
  pub turns : TurnsBy asked after batch turn
  -- it had its desk again by the very step after its post
  pub again : TakesNext asked asked after

-- it found no answer
abbrev pub FoundNoAnswer : Turn → Type 0
FoundNoAnswer (Collects reply) = ⊥
FoundNoAnswer Combines = Unit {0}
FoundNoAnswer Waits = Unit {0}

-- the session waits for this answer, and has had fewer answers than a word can count
abbrev pub StillWaits : SessionKnown → Pending → Type 0
StillWaits k o = (k.note.pending ≡ Some o) × (suc (length k.note.answered) < 2 ^ 64)

-- the seat is one session of this store, that of the caller's slot, which holds nothing, has what the programs of its batch answer, and waits still
abbrev pub MayHandOver : StoreSeat → Caller → Shared → BatchView → RepliesView → Type 0
MayHandOver s caller shared batch kept = Knows s (λ k. IsFree caller k × IsReady k batch kept × IsOn shared k × Stands k × ((o : Pending) × StillWaits k o))

-- its session has handed over the answers of its batch, and had a turn then, as if it had put the desk back and taken it again between
pub record GivesAndTurns (node : ℕ) (new : StoreSeat) (k : SessionKnown) (o : Pending) (given : BatchView) (kept : RepliesView) (batch : BatchView) (turn : Turn) : Type 0 where
  pub combined : SessionKnown
  pub has : HasCombined k combined
  pub gives : HandsOver node k combined given kept
  pub after : SessionKnown
  pub is : IsSession new after
  pub turned : HasTurned combined after o batch turn
  pub turns : TurnsBy combined after batch turn
  -- it had its desk again by the very step after it handed over
  pub again : TakesNext combined combined after

-- so it has, whichever request it waits for
abbrev pub SessionGives : (node : ℕ) (old new : StoreSeat) → (given : BatchView) → (kept : RepliesView) → BatchView
    → Turn → Type 0
SessionGives node old new given kept batch turn = (k : SessionKnown) (o : Pending) → IsSession old k → StillWaits k o → GivesAndTurns node new k o given kept batch turn

-- What a session that has posted does in holds of its desk, up to this turn. In the hold of its post it has a turn; and where it combines a batch, it has
-- a turn in the hold in which it hands over the answers: the very step after took the desk again.
pub data InHolds (asked : SessionKnown) : (after : SessionKnown) → BatchView → Turn → Type 0 where
  First : (after : SessionKnown) (batch : BatchView) (turn : Turn) → TurnsBy asked after batch turn
      → TakesNext asked asked after → InHolds asked after batch turn
  Looked : (m after : SessionKnown) (old batch : BatchView) (turn : Turn) → InHolds asked m old Waits
      → TurnsBy m after batch turn → InHolds asked after batch turn
  Gave : (m answered given after : SessionKnown) (node : ℕ) (claimed batch : BatchView) (kept : RepliesView) (turn : Turn) → InHolds asked m claimed Combines
      → AnswersBy node m answered claimed kept → HandsOver node answered given claimed kept
      → TurnsBy given after batch turn → TakesNext given given after → InHolds asked after batch turn

-- a whole update of this operation so
pub record UpdatesInHolds (k after : SessionKnown) (op : Operation) (reply : Reply) : Type 0 where
  pub asked : SessionKnown
  pub posts : PostsBy k asked op
  pub batch : BatchView
  pub holds : InHolds asked after batch (Collects reply)

-- it has posted the operation, and has its answer
pub record AsksAtOnce (new : StoreSeat) (k : SessionKnown) (op : Operation) (reply : Reply) : Type 0 where
  pub asked : SessionKnown
  pub posted : HasPosted k asked op
  pub posts : PostsBy k asked op
  pub after : SessionKnown
  pub is : IsSession new after
  pub completed : HasCompleted asked after posted.request reply
  pub completes : CompletesBy asked after reply
  pub held : UpdatesInHolds k after op reply

-- ---- turn after turn

-- the session has its request still, and knows more
pub record Resumed (k m : SessionKnown) : Type 0 where
  pub session : m.session ≡ k.session
  pub held : m.held ≡ k.held
  pub note : m.note ≡ k.note
  pub extends : Extends k.progress m.progress

-- who asked this has waited, and made its rounds; its last turn was this one
pub record Waited (s : StoreSeat) (asked : SessionKnown) (o : Pending) (batch : BatchView) (turn : Turn) : Type 0 where
  pub waited : SessionKnown
  pub resumed : Resumed asked waited
  pub rounds : Rounds asked waited
  pub now : SessionKnown
  pub is : IsSession s now
  pub turned : HasTurned waited now o batch turn
  pub turns : TurnsBy waited now batch turn
  pub held : InHolds asked now batch turn

-- the session of the seat, which held nothing when it asked this, has waited so
pub record HasGone (s : StoreSeat) (caller : Caller) (asked : SessionKnown) (o : Pending) (batch : BatchView)
    (turn : Turn) : Type 0 where
  pub free : IsFree caller asked
  pub asks : HasAsked asked o
  pub waits : Waited s asked o batch turn

-- it has, in this store
abbrev pub MayGoOn : StoreSeat → Caller → Shared → BatchView → Turn → Type 0
MayGoOn s caller shared batch turn = (asked : SessionKnown) × (o : Pending) × HasGone s caller asked o batch turn
    × IsOn shared asked

-- whoever has gone so far with the first of these turns has gone to this answer
abbrev pub GoesOnTo : Caller → (old new : StoreSeat) → (before : BatchView) → Turn → (after : BatchView) → Reply
    → Type 0
GoesOnTo caller old new before turn after reply =
    (asked : SessionKnown) (o : Pending) → HasGone old caller asked o before turn
    → HasGone new caller asked o after (Collects reply)

-- Sessions of one node, each with a seat of its own, which hand their node's desk from one to the next.
use Rattle.std.specs.Prelude.{◌≡◌, ◌≢◌, ℕ, suc, ◌+◌, ◌-◌, ◌<◌, List, length, map, false, Some}
use Rattle.ownlock.specs.Held.{IsFrom, held_place}
use Rattle.ownlock.specs.Seats.{At, IsSession, ShelfId, TookNext}
use Rattle.ownlock.specs.Knowledge.{Acquired}
use Rattle.ownlock.specs.declared.shelf.Held.{Held}
use Rattle.combiner.specs.Desks.{BatchView, DeskView, IsBatchOf, first_author, has_combiner, posted, replied}
use Rattle.combiner.specs.Slots.{slot}
use Rattle.combiner.specs.declared.slots.Reply.{Reply}
use Rattle.combiner.specs.declared.slots.Stage.TheVariants.{Answered, Posted}
use Rattle.loader.specs.CatalogueView.{CatalogueView}
use Rattle.verifier.specs.declared.refusal.Mode.TheVariants.{Update}
use Rattle.accounts.specs.Accounts.{Extends, IsWellFormed}
use Rattle.oplog.specs.Operations.{Operation}
use Rattle.accounts.specs.declared.sessions.Pending.{Pending}
use Rattle.replica.specs.StoreMeaning.{store_meaning}
use Rattle.replica.specs.Views.{RepliesView}
use Rattle.store_steps.specs.declared.desks.Turn.{Turn}
use Rattle.store_steps.specs.declared.desks.Turn.TheVariants.{Collects}
use Rattle.store_steps.specs.declared.pipelines.Member.{Member}
use Rattle.store_steps.specs.declared.steps.Caller.{Caller}
use Rattle.store_steps.specs.declared.steps.Here.{Here}
use Rattle.store_steps.specs.declared.steps.Question.{Question}
use Rattle.store_steps.specs.declared.steps.Shared.{Shared}
use Rattle.store_steps.specs.Asking.{AwaitsAnswer, asked_op}
use Rattle.store_steps.specs.declared.values.Value.{Value}
use Rattle.store_steps.specs.AtDesk.{HasAsked, IsReady, IsTurn}
use Rattle.store_steps.specs.AtOnce.{IsAlone, MayAsk}
use Rattle.store_steps.specs.Combining.{HasCombined}
use Rattle.store_steps.specs.Knowing.{IsOn}
use Rattle.store_steps.specs.Lending.{desk_of}
use Rattle.store_steps.specs.Questions.{MayAskEach}
use Rattle.store_steps.specs.Requests.{HasPosted, HasTurned}
use Rattle.store_steps.specs.Shelving.{store_rules}
use Rattle.store_steps.specs.Standing.{IsFree, SessionKnown, Stands, StoreSeat}
use Rattle.store_steps.specs.Updating.{AtItsDesk, PostsBy, TurnsBy}
use Rattle.store_steps.specs.Visits.{PutsBack, TakesNext}
use Rattle.store_steps.specs.Whole.{HandsOver}

-- the held value is of the desk of this node
abbrev pub IsDesk : Here → Held Value → Type 0
IsDesk here h = (held_place h ≡ 1 + here.shared.nodes + here.caller.node) × IsFrom here.shared.shelf.now h

-- the seat is the session t of this slot, which was k before it took the held value
pub record HasDesk (s : StoreSeat) (here : Here) (h : Held Value) (k t : SessionKnown) : Type 0 where
  pub is : IsSession s t
  pub free : IsFree here.caller k
  pub on : IsOn here.shared k
  pub took : Acquired store_rules (held_place h) k t h.value

-- some session of this seat has the desk, and may ask for an update
abbrev pub MayPostThere : StoreSeat → Here → Held Value → Type 0
MayPostThere s here h = (k : SessionKnown) × (t : SessionKnown) × HasDesk s here h k t × IsAlone k

-- the seat is one session of some slot of this node, which holds nothing
pub record IsNext (s : StoreSeat) (here : Here) (m : SessionKnown) : Type 0 where
  pub is : IsSession s m
  pub slot : ℕ
  pub free : IsFree (record { node = here.caller.node; slot = slot }) m
  pub on : IsOn here.shared m

-- the operation is posted at the desk
abbrev pub IsPosted : Here → Operation → (before after : Held Value) → Type 0
IsPosted here op before after = (x : DeskView) → desk_of before.value ≡ Some x → posted here.caller.slot op x ≡ desk_of after.value

-- the session t has put its desk back, and is f; the session m has it by the very next step
pub record HasHanded (at done : StoreSeat) (h : Held Value) (m t f : SessionKnown) : Type 0 where
  pub done_is : IsSession done f
  pub put : PutsBack t f
  pub now : SessionKnown
  pub is : IsSession at now
  pub took : Acquired store_rules (held_place h) m now h.value
  pub next : TookNext f.run (held_place h) h.value now

-- the session k, which is t while it has its desk, has posted, and has its desk again by the very next step
pub record PostsAndKeeps (at : StoreSeat) (here : Here) (h : Held Value) (k t : SessionKnown) (op : Operation) : Type 0 where
  pub asked : SessionKnown
  pub posted : HasPosted k asked op
  pub posts : PostsBy k asked op
  pub put : PutsBack t asked
  pub now : SessionKnown
  pub has : HasDesk at here h asked now
  pub next : TookNext asked.run (held_place h) h.value now

-- the session k, which is t while it has its desk, has posted, and handed the desk on
pub record PostsAndHands (at done : StoreSeat) (h : Held Value) (k t m : SessionKnown) (op : Operation) : Type 0 where
  pub asked : SessionKnown
  pub posted : HasPosted k asked op
  pub posts : PostsBy k asked op
  pub handed : HasHanded at done h m t asked

-- whichever session had the desk and may ask has posted, and keeps the desk
abbrev pub SessionKeeps : (old new : StoreSeat) → Here → (before after : Held Value) → Operation → Type 0
SessionKeeps old new here before after op = (k t : SessionKnown) → HasDesk old here before k t → IsAlone k → PostsAndKeeps new here after k t op

-- or has handed the desk on
abbrev pub SessionHands : (old new next done : StoreSeat) → Here → (before after : Held Value) → Operation → Type 0
SessionHands old new next done here before after op =
    (k t m : SessionKnown) → HasDesk old here before k t → IsAlone k → IsNext next here m → PostsAndHands new done after k t m op

-- ---- turns, and answers

-- the seat is some session that waits for an answer, and holds its desk
abbrev pub MayTurnThere : StoreSeat → Here → Held Value → Type 0
MayTurnThere s here h = (k : SessionKnown) × (t : SessionKnown) × (o : Pending) × HasDesk s here h k t × HasAsked k o

-- the desk had this turn, and P holds of what it is then
abbrev pub IsTurnThere : Here → Held Value → BatchView → Turn → (DeskView → Type 0) → Type 0
IsTurnThere here h batch turn P = (x : DeskView) → desk_of h.value ≡ Some x → (y : DeskView) × IsTurn here.caller.slot x y batch turn × P y

-- the session had this turn, and P holds of what it is then
pub record TurnsThere (k : SessionKnown) (o : Pending) (batch : BatchView) (turn : Turn) (P : SessionKnown → Type 0) : Type 0 where
  pub after : SessionKnown
  pub turned : HasTurned k after o batch turn
  pub turns : TurnsBy k after batch turn
  pub is : P after

-- whichever session had the desk and waits for an answer had this turn; P holds of the session with the desk, and of what it is then
abbrev pub SessionTurnsThere : StoreSeat → Here → Held Value → BatchView → Turn → (SessionKnown → SessionKnown → Type 0) → Type 0
SessionTurnsThere old here h batch turn P =
    (k t : SessionKnown) (o : Pending) → HasDesk old here h k t → HasAsked k o → TurnsThere k o batch turn (P t)

-- whichever session is next, P holds of that session, of the other one with the desk, and of what that is then
abbrev pub TurnsToNext : (old next : StoreSeat) → Here → Held Value → BatchView → Turn → (SessionKnown → SessionKnown → SessionKnown → Type 0) → Type 0
TurnsToNext old next here h batch turn P = (m : SessionKnown) → IsNext next here m → SessionTurnsThere old here h batch turn (P m)

-- the seat is some session that has what the programs of this batch answer, and holds its desk
abbrev pub MayGiveThere : StoreSeat → Here → Held Value → BatchView → RepliesView → Type 0
MayGiveThere s here h b kept = (k : SessionKnown) × (t : SessionKnown) × HasDesk s here h k t × IsReady k b kept × Stands k

-- the answered batch is that of the desk's claimed requests, which have their answers then
abbrev pub IsReplied : Held Value → BatchView → Held Value → Type 0
IsReplied before b after = (x : DeskView) → desk_of before.value ≡ Some x → IsBatchOf x b × (desk_of after.value ≡ Some (replied b x))

-- the session has handed over the answers of its batch, and has its desk again by the very next step
pub record GivesAndKeeps (at : StoreSeat) (here : Here) (h : Held Value) (k : SessionKnown) (b : BatchView) (kept : RepliesView) : Type 0 where
  pub combined : SessionKnown
  pub has : HasCombined k combined
  pub gives : HandsOver here.caller.node k combined b kept
  pub now : SessionKnown
  pub desk : HasDesk at here h combined now
  pub next : TookNext combined.run (held_place h) h.value now

-- whichever session had the desk and its answers ready has done so
abbrev pub SessionGivesThere : (old new : StoreSeat) → Here → (before after : Held Value) → BatchView → RepliesView → Type 0
SessionGivesThere old new here before after b kept =
    (k t : SessionKnown) → HasDesk old here before k t → IsReady k b kept → Stands k → GivesAndKeeps new here after k b kept

-- ---- a look at a desk, where another session combines

-- the session has taken its desk and put it back as it was, so often
pub data Visits : SessionKnown → SessionKnown → Type 0 where
  Stays : (k : SessionKnown) → Visits k k
  Visit : (k m after : SessionKnown) (slot : ℕ) (x : DeskView) → Visits k m → AtItsDesk m after slot x x → Visits k after

-- the session has only looked at its desk
pub record HasLooked (k after : SessionKnown) : Type 0 where
  pub session : after.session ≡ k.session
  pub held : after.held ≡ k.held
  pub note : after.note ≡ k.note
  pub extends : Extends k.progress after.progress
  pub well_formed : IsWellFormed store_meaning k.progress → IsWellFormed store_meaning after.progress
  pub visits : Visits k after

-- no session combines at the held desk
abbrev pub HasNoCombiner : Held Value → Type 0
HasNoCombiner h = (x : DeskView) → desk_of h.value ≡ Some x → has_combiner x ≡ false

-- the session took the held desk
abbrev pub SessionTakes : (old new : StoreSeat) → Here → Held Value → Type 0
SessionTakes old new here h = (k : SessionKnown) → IsSession old k → (t : SessionKnown) × HasDesk new here h k t

-- ---- the members of a pipeline

-- where a member works
abbrev pub here_of : Shared → Member → Here
here_of shared member = record { shared = shared; caller = member.caller }

-- the j-th member is the session k
abbrev pub KnownAt : List Member → ℕ → SessionKnown → Type 0
KnownAt members j k = (member : Member) × At j member members × IsSession member.seat k

-- the seat of each member is of this shelf, and all are of one node
pub record AreMembers (id : ShelfId) (members : List Member) : Type 0 where
  pub own : (j : ℕ) (member : Member) → At j member members → member.seat.shelf ≡ id
  pub near : (i j : ℕ) (p q : Member) → At i p members → At j q members → p.caller.node ≡ q.caller.node

-- the slot of a member, and the shelf of its seat
abbrev pub spot_of : Member → Caller × ShelfId
spot_of member = (member.caller, member.seat.shelf)

-- each member has the slot and the shelf that it had
abbrev pub SameSpots : (old new : List Member) → Type 0
SameSpots old new = map spot_of new ≡ map spot_of old

-- each call may be asked for
abbrev pub AreCalls : CatalogueView → List Question → Type 0
AreCalls c calls = MayAskEach Update c calls

-- the session of the j-th member, before it took the desk: that of the number `from` has it, in the seat s
abbrev pub Begins : Shared → List Member → (from : ℕ) → StoreSeat → Held Value → ℕ → SessionKnown → Type 0
Begins shared members from s h j f =
    (j ≡ from → (member : Member) × (t : SessionKnown) × At j member members × HasDesk s (here_of shared member) h f t) × (j ≢ from → KnownAt members j f)

-- the sessions of later members have higher numbers
abbrev pub AscendFrom : Shared → List Member → StoreSeat → Held Value → Type 0
AscendFrom shared members s h = (i j : ℕ) (f g : SessionKnown) → i < j → Begins shared members 0 s h i f → Begins shared members 0 s h j g → f.session < g.session

-- the j-th member has the desk now
abbrev pub HoldsAt : Shared → List Member → StoreSeat → Held Value → ℕ → SessionKnown → Type 0
HoldsAt shared members s h j f = (member : Member) × (t : SessionKnown) × At j member members × HasDesk s (here_of shared member) h f t

-- the j-th member may ask for an update
abbrev pub MayAskAt : Shared → List Member → ℕ → Type 0
MayAskAt shared members j = (member : Member) → At j member members → MayAsk member.seat member.caller shared

-- the j-th member has posted
abbrev pub PostsAt : List Member → ℕ → SessionKnown → Operation → Type 0
PostsAt members j f op = (asked : SessionKnown) × KnownAt members j asked × HasPosted f asked op × PostsBy f asked op

-- the session has a request at the desk that nobody has claimed
abbrev pub Asks : DeskView → SessionKnown → Type 0
Asks x f = (s : ℕ) × (op : Operation) × (count : ℕ) × At s (slot (Posted op) count) x.slots × (f.session ≡ first_author x + s)

-- the answer to the session's request waits at the desk
abbrev pub AnswerWaits : DeskView → SessionKnown → Reply → Type 0
AnswerWaits x f reply = (s : ℕ) × (count : ℕ) × At s (slot (Answered reply) count) x.slots × (f.session ≡ first_author x + s)

-- the session of the seat has this desk, and may post, or have a turn there
abbrev pub MayPostWith : Here → StoreSeat → Held Value → Type 0
MayPostWith here s h = IsDesk here h × MayPostThere s here h

abbrev pub MayTurnWith : Here → StoreSeat → Held Value → Type 0
MayTurnWith here s h = IsDesk here h × MayTurnThere s here h

-- the j-th member waits for an answer
abbrev pub WaitsAt : Shared → List Member → ℕ → Type 0
WaitsAt shared members j = (member : Member) → At j member members → AwaitsAnswer member.seat member.caller shared

-- each call except the first is posted; the seat s is for the last one
abbrev pub PostsLater : Shared → (old new : List Member) → List Question → StoreSeat → Held Value → Type 0
PostsLater shared old new calls s h =
    (j : ℕ) (f : SessionKnown) (q : Question) → 0 < j → At j q calls → Begins shared old (length calls - 1) s h j f → PostsAt new j f (asked_op q)

-- the desk has come from the member with this number to the first one
abbrev pub HoldsFirst : Shared → (old new : List Member) → (from : ℕ) → (last first : StoreSeat × Held Value) → Type 0
HoldsFirst shared old new from last first =
    ((f : SessionKnown) → Begins shared old from last.0 last.1 0 f → HoldsAt shared new first.0 first.1 0 f) × ((member : Member) → At 0 member new → IsDesk (here_of shared member) first.1)

-- each later member except the last took the desk by the very step after the next member had put it back, and so did the first one
abbrev pub PostsNext : Shared → (old new : List Member) → (count : ℕ) → (last first : StoreSeat × Held Value) → Type 0
PostsNext shared old new count last first =
    ((j : ℕ) (f a b : SessionKnown) → 0 < j → suc j < count → Begins shared old (count - 1) last.0 last.1 j f → KnownAt new j a → KnownAt new (suc j) b → TakesNext b f a)
    × ((t b : SessionKnown) → 1 < count → IsSession first.0 t → KnownAt new 1 b → TookNext b.run (held_place first.1) first.1.value t)

-- it has the requests of all later members then, and no session combines that did not
abbrev pub DeskAsks : Shared → List Member → (from : ℕ) → (last first : StoreSeat × Held Value) → Type 0
DeskAsks shared members from last first =
    (HasNoCombiner last.1 → HasNoCombiner first.1) × ((x : DeskView) (j : ℕ) (f : SessionKnown) → desk_of first.1.value ≡ Some x → 0 < j → Begins shared members from last.0 last.1 j f → Asks x f)

-- an answer waits for each member at the desk that the first one has
abbrev pub AllAnswered : Shared → List Member → StoreSeat → Held Value → Type 0
AllAnswered shared members s h = (x : DeskView) (j : ℕ) (f : SessionKnown) → desk_of h.value ≡ Some x → Begins shared members 0 s h j f → (reply : Reply) × AnswerWaits x f reply

-- the j-th member has collected the reply
pub record CollectsAt (members : List Member) (j : ℕ) (f : SessionKnown) (o : Pending) (reply : Reply) : Type 0 where
  pub after : SessionKnown
  pub is : KnownAt members j after
  pub batch : BatchView
  pub turned : HasTurned f after o batch (Collects reply)
  pub turns : TurnsBy f after batch (Collects reply)

-- each member has collected the answer that waited for it
abbrev pub CollectsEach : Shared → (old new : List Member) → StoreSeat → Held Value → List Reply → Type 0
CollectsEach shared old new s h replies =
    (x : DeskView) (j : ℕ) (f : SessionKnown) (o : Pending) → desk_of h.value ≡ Some x → Begins shared old 0 s h j f → HasAsked f o
    → (reply : Reply) × At j reply replies × AnswerWaits x f reply × CollectsAt new j f o reply

-- the first member put its desk back, and each later one took it by the very step after the member before it had put it back
abbrev pub CollectsNext : Shared → (old new : List Member) → StoreSeat → Held Value → Type 0
CollectsNext shared old new s h =
    ((member : Member) (f t b : SessionKnown) → At 0 member old → HasDesk s (here_of shared member) h f t → KnownAt new 0 b → PutsBack t b)
    × ((j : ℕ) (f a b : SessionKnown) → KnownAt old (suc j) f → KnownAt new j a → KnownAt new (suc j) b → TakesNext a f b)

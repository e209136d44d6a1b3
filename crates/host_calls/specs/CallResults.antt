-- What a session tells of an update or a read that is asked of it.
use Rattle.std.specs.Prelude.{◌≡◌, ℕ, ◌≤◌, length, Option, MatchOption, Result, Ok, Err}
use Rattle.loader.specs.CatalogueView.{CatalogueView}
use Rattle.loader.specs.StoreState.{StoreState}
use Rattle.oplog.specs.Operations.{Operation}
use Rattle.combiner.specs.declared.slots.Reply.TheVariants.{Placed, Ended}
use Rattle.readpath.specs.declared.reading.ReadAnswer.{ReadAnswer}
use Rattle.replica.specs.StoreMeaning.{store_meaning}
use Rattle.replica.specs.declared.refusals.StoreRefused.{StoreRefused}
use Rattle.replica.specs.declared.refusals.StoreRefused.TheVariants.{Ended as TheEnd}
use Rattle.accounts.specs.declared.sessions.Pending.{Pending}
use Rattle.accounts.specs.Accounts.{Extends, IsWellFormed}
use Rattle.accounts.specs.Moves.{posted_with}
use Rattle.accounts.specs.Told.{read_with}
use Rattle.store_steps.specs.Views.{SessionView, known_of}
use Rattle.store_laws.specs.Gone.{GoneOn}
use Rattle.store.specs.declared.answers.Answer.{Answer}
use Rattle.store.specs.declared.updating.Tried.{Tried}
use Rattle.store.specs.declared.updating.Tried.TheVariants.{Busy as StillHeld, Waits, Ends}
use Rattle.store.specs.Looks.{HasReply}
use Rattle.store_steps.specs.Sights.{SightTells}
use Rattle.store.specs.Sessions.{IsFresh}
use Rattle.store.specs.Polled.{HasPostedFor}
use Rattle.store_steps.specs.Stages.{IsOnItsWay, TellsDone}
use Rattle.host_calls.specs.declared.attached.CallResult.{CallResult}
use Rattle.host_calls.specs.declared.attached.CallResult.TheVariants.{Busy, Again, Answered, Refused, NotOpen, IsOut, NoWord, Allowed}

-- the session knows a history that has grown, and that its store may have; the run that it knows has gone on by steps of others and by its own
pub record HasGrown (old new : SessionView) : Type 0 where
  pub grown : Extends old.progress new.progress
  pub well_formed : IsWellFormed store_meaning new.progress
  pub gone : GoneOn (known_of old) (known_of new)

-- P is so of the state at the answer's point, and the point is not below the tail that was completed when the session looked
abbrev pub IsSeen : {A : Type 0} → (A → CatalogueView → StoreState → Type 0) → (A → ℕ) → (old new : SessionView) → A
    → Type 0
IsSeen P point old new answer = IsFresh old new (point answer) × SightTells (P answer) new.progress old.progress.completed (point answer)

-- what is told of an update that has its answer
abbrev pub answered : Result Answer StoreRefused → CallResult
answered (Ok a) = Answered a.index a.reply
answered (Err why) = Refused why

-- what is told of an update that was tried
abbrev pub tried_call : Tried → CallResult
tried_call StillHeld = Busy
tried_call Waits = Again
tried_call (Ends answer) = answered answer

-- of a session that waits for this request: it waits still, and its note has changed in nothing but its batch; or it has the answer, with its place
-- in the history that the session knows now and the reply there; or that history has its last record, and none of the request
abbrev pub TellsOut : (old new : SessionView) → Pending → CallResult → Type 0
TellsOut old new o Again = IsOnItsWay old new
TellsOut old new o (Answered point reply) = TellsDone old new o (Placed point reply)
TellsOut old new o (Refused why) = (why ≡ TheEnd) × TellsDone old new o Ended
TellsOut old new o Busy = ⊥
TellsOut old new o NotOpen = ⊥
TellsOut old new o IsOut = ⊥
TellsOut old new o NoWord = ⊥
TellsOut old new o Allowed = ⊥

-- the session, once it has posted this request
abbrev pub posted_as : SessionView → Pending → SessionView
posted_as s o = record s { note = posted_with s.note o }

-- a request of this operation is posted now, when the history is no shorter than the session knew
abbrev pub TellsNew : Operation → (old new : SessionView) → CallResult → Type 0
TellsNew op old new told = (o : Pending) × (o.op ≡ op) × (length old.progress.history ≤ o.seen) × TellsOut (posted_as old o) new o told

-- none is out, and none is refused: nothing has changed, or one is posted
abbrev pub TellsPosting : Operation → (old new : SessionView) → CallResult → Type 0
TellsPosting op old new Busy = new ≡ old
TellsPosting op old new told = TellsNew op old new told

-- what is refused changes nothing
abbrev pub TellsRefused : (old new : SessionView) → CallResult → StoreRefused → Type 0
TellsRefused old new told why = (told ≡ Refused why) × (new ≡ old)

-- an update of this operation, which the store refuses for a reason or doesn't: it goes on with the one that is out, if one is
abbrev pub TellsUpdate : Operation → Option StoreRefused → (old new : SessionView) → CallResult → Type 0
TellsUpdate op refused old new told =
    HasGrown old new × MatchOption old.note.pending (MatchOption refused (TellsPosting op old new told) (λ why. TellsRefused old new told why)) (λ o. TellsOut old new o told)

-- an update alike that is posted and nothing more: the session takes along no other
abbrev pub TellsPostedAlone : Operation → (old new : SessionView) → CallResult → Type 0
TellsPostedAlone op old new Busy = new ≡ old
TellsPostedAlone op old new Again = HasPostedFor old new op
TellsPostedAlone op old new told = ⊥

abbrev pub TellsPost : Operation → Option StoreRefused → (old new : SessionView) → CallResult → Type 0
TellsPost op refused old new told =
    HasGrown old new × MatchOption old.note.pending (MatchOption refused (TellsPostedAlone op old new told) (λ why. TellsRefused old new told why)) (λ o. TellsOut old new o told)

-- a read that isn't refused: a place was held, or it has seen all that was completed when it began, and has the reply there; the session notes the read
-- and that answer
abbrev pub TellsSeen : Operation → (old new : SessionView) → CallResult → Type 0
TellsSeen op old new Busy = new.note ≡ old.note
TellsSeen op old new (Answered point reply) =
    (new.note ≡ read_with old.note op point reply) × IsSeen (HasReply op) (λ (a : ReadAnswer). a.point) old new (record { point = point; reply = reply })
TellsSeen op old new told = ⊥

-- a read alike: it is refused while an update is out, and what the session waits for stays what it was
abbrev pub TellsReading : Operation → Option StoreRefused → (old new : SessionView) → CallResult → Type 0
TellsReading op refused old new told =
    MatchOption old.note.pending (HasGrown old new × MatchOption refused (TellsSeen op old new told) (λ why. TellsRefused old new told why)) (λ o. (told ≡ IsOut) × (new ≡ old))

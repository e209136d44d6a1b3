-- What the calls tell that look at a node's replica, those that wait and those that don't; and of which steps they are made.
use Rattle.std.specs.Prelude.{◌≡◌, ℕ, List, length, Option, Some, None, Result, Err, IfNone, IfOk, IfSome, MatchResult}
use Rattle.verifier.specs.declared.refusal.Mode.TheVariants.{Read}
use Rattle.loader.specs.CatalogueView.{CatalogueView}
use Rattle.loader.specs.StoreState.{StoreState}
use Rattle.oplog.specs.Operations.{Operation}
use Rattle.readpath.specs.declared.reading.ReadAnswer.{ReadAnswer}
use Rattle.replica.specs.Refusals.{early_refusal}
use Rattle.store_steps.specs.declared.getting.GetRefused.{GetRefused}
use Rattle.store_steps.specs.declared.getting.Lookup.{Lookup}
use Rattle.store_steps.specs.declared.getting.MapKey.{MapKey}
use Rattle.store_steps.specs.declared.scanning.Beginning.{Beginning}
use Rattle.store_steps.specs.declared.scanning.Scan.{Scan}
use Rattle.store_steps.specs.declared.scanning.ScanRefused.{ScanRefused}
use Rattle.store_steps.specs.declared.steps.Question.{Question}
use Rattle.store_steps.specs.Getting.{IsUnder, get_refusal}
use Rattle.store_steps.specs.Questions.{EachReplies, first_refused}
use Rattle.store_steps.specs.Scanning.{GivesIn, scan_refusal}
use Rattle.store_steps.specs.Seen.{Sight, holds}
use Rattle.store_steps.specs.Sights.{SightBy, SightTells}
use Rattle.store_steps.specs.Views.{RepliesIn, SessionView}
use Rattle.store.specs.Sessions.{IsFresh, StoreView, known_of}

-- where it is refused, the call answers why, and P holds
abbrev pub IsRefused : {A E : Type 0} → Option E → Result A E → Type 0 → Type 0
IsRefused {A} {E} refusal result P = (r : E) → refusal ≡ Some r → (result ≡ Err r) × P

-- P is so of the state at the answer's point, and the point is not below the tail that was completed when the session looked; and the steps of the look
abbrev pub IsSight : {A : Type 0} → (A → CatalogueView → StoreState → Type 0) → (A → ℕ) → (old new : SessionView) → A → Type 0
IsSight P point old new answer =
    IsFresh old new (point answer) × SightTells (P answer) new.progress old.progress.completed (point answer) × SightBy (P answer) (point answer) (known_of old) (known_of new)

-- a look that is not refused has such an answer
abbrev pub TellsSight : {A E : Type 0} → (A → CatalogueView → StoreState → Type 0) → (A → ℕ) → (old new : SessionView) → Result A E → Type 0
TellsSight P point old new result = MatchResult result (IsSight P point old new) (λ _. ⊥)

-- ---- what each answer says of the state

-- a look says that the state is as its sight
abbrev pub IsAsSeen : {A : Type 0} → (A → Sight) → A → CatalogueView → StoreState → Type 0
IsAsSeen sees answer c state = holds (sees answer) c state

-- a read says that its operation has this reply there
abbrev pub HasReply : Operation → ReadAnswer → CatalogueView → StoreState → Type 0
HasReply op answer c state = RepliesIn c op state answer.reply

-- several reads say that each question has its reply there, at one point
abbrev pub HaveReplies : List Question → (replies : List ℕ) → (point : ℕ) → CatalogueView → StoreState → Type 0
HaveReplies questions replies point c state = EachReplies c state questions replies

-- a scan says that the map has this page there; keys and values are the rooms before it, and keys' and values' what they hold now
abbrev pub HasPage : Beginning → (keys values keys' values' : List ℕ) → Scan → CatalogueView → StoreState → Type 0
HasPage begin keys values keys' values' s c state = GivesIn c state begin.map begin.from (length keys) (length values) keys' values' s

-- a get says what stands under the key there; `before` is the room before it, and `value` what that holds now
abbrev pub HasValue : MapKey → (before value : List ℕ) → Lookup → CatalogueView → StoreState → Type 0
HasValue of before value found c state = IsUnder state.maps of.map of.key.now before value found

-- a snapshot says that this is the state there
abbrev pub IsTaken : StoreState → (point : ℕ) → CatalogueView → StoreState → Type 0
IsTaken taken point c state = taken ≡ state

-- ---- which are refused

-- the refusal of a scan
abbrev pub scan_refused : StoreView → Beginning → Option ScanRefused
scan_refused store begin = scan_refusal store.catalogue begin.map begin.from

-- the refusal of a key and of room for its value
abbrev pub key_refused : StoreView → MapKey → (room : ℕ) → Option GetRefused
key_refused store of room = get_refusal store.catalogue of.map (length of.key.now) room

-- the store does not refuse to run this program on this argument as a read
abbrev pub MayRead : StoreView → (program : ℕ) → (argument : List ℕ) → Type 0
MayRead store program argument = early_refusal store.catalogue Read program argument ≡ None

-- the store refuses none of these questions
abbrev pub MayReadEach : StoreView → List Question → Type 0
MayReadEach store questions = first_refused store.catalogue 0 questions ≡ None

-- the store does not refuse to begin a scan there
abbrev pub MayScan : StoreView → Beginning → Type 0
MayScan store begin = scan_refused store begin ≡ None

-- the store does not refuse to look for this key, with this room for its value
abbrev pub MayGet : StoreView → MapKey → (value : List ℕ) → Type 0
MayGet store of value = key_refused store of (length value) ≡ None

-- ---- calls that wait for nobody, where they are not refused

-- where a place is held there is no answer, else P holds of it
abbrev pub TellsTried : {A E : Type 0} → Result (Option A) E → (A → Type 0) → Type 0
TellsTried result P = MatchResult result (λ o. IfSome o P) (λ _. ⊥)

-- P holds of the answer, if the call found no place held
abbrev pub TriedGoes : {A E : Type 0} → Result (Option A) E → (A → Type 0) → Type 0
TriedGoes result P = IfOk result (λ o. IfSome o P)

-- P holds where there is no answer
abbrev pub IfUnanswered : {A E : Type 0} → Result (Option A) E → Type 0 → Type 0
IfUnanswered result P = MatchResult result (λ o. IfNone o P) (λ _. P)

-- What a session tells of a look at the maps of its node: of a get, a scan, several reads, and a snapshot; and what is written of it.
use Rattle.std.specs.Prelude.{◌≡◌, ℕ, ◌≤◌, List, ◌∷◌, length, None, Some, Option, MatchOption, Result, Ok, Err, if◌then◌else◌}
use Rattle.ownlock.specs.declared.known.ShelfStep.{ShelfStep}
use Rattle.ownlock.specs.declared.known.ShelfStep.TheVariants.{Put}
use Rattle.loader.specs.CatalogueView.{CatalogueView, sizes_for}
use Rattle.loader.specs.StoreState.{StoreState, sizes_of}
use Rattle.oplog.specs.Sessions.{IsSessionOf}
use Rattle.replica.specs.Refusals.{store_fault_number}
use Rattle.accounts.specs.Agreement.{replica_place}
use Rattle.store_steps.specs.declared.getting.GetRefused.{GetRefused}
use Rattle.store_steps.specs.declared.getting.Lookup.{Lookup}
use Rattle.store_steps.specs.declared.questions.QuestionRefused.{QuestionRefused}
use Rattle.store_steps.specs.declared.scanning.Scan.{Scan}
use Rattle.store_steps.specs.declared.scanning.ScanRefused.{ScanRefused}
use Rattle.store_steps.specs.declared.steps.Question.{Question}
use Rattle.store_steps.specs.declared.values.Value.{Value}
use Rattle.store_steps.specs.Getting.{IsUnder, get_fault_number, get_refusal}
use Rattle.store_steps.specs.Lending.{replica_of}
use Rattle.store_steps.specs.Questions.{first_refused}
use Rattle.store_steps.specs.Scanning.{GivesIn, scan_fault_number, scan_refusal}
use Rattle.store_steps.specs.Views.{SessionView}
use Rattle.store.specs.Looks.{HaveReplies, IsTaken}
use Rattle.host_calls.specs.declared.attached.Looked.{Looked}
use Rattle.host_calls.specs.declared.attached.Looked.TheVariants.{Busy, Seen, Refused, NotOpen, IsOut, NoWord}
use Rattle.host_calls.specs.declared.handles.Answered.{Answered}
use Rattle.host_calls.specs.declared.handles.SessionHandle.{SessionHandle}
use Rattle.host_calls.specs.declared.handles.StateHandle.{StateHandle}
use Rattle.host_calls.specs.declared.handles.TheConstants.{MOST_ASKED, AT_END}
use Rattle.host_calls.specs.Statuses.{busy, done, is_out, letter_S, no_word, not_open, other_sizes, refusal}
use Rattle.host_calls.specs.CallResults.{HasGrown, IsSeen}
use Rattle.host_calls.specs.Views.{AttachedView, IsSame}

-- ---- what is told

-- a look that isn't refused: a place was held, and what the call is to fill stays as it was; or P is what is known of what was seen
abbrev pub TellsSight : (kept : Type 0) → (Looked → Type 0) → Looked → Type 0
TellsSight kept P Busy = kept
TellsSight kept P (Seen point count next) = P (Seen point count next)
TellsSight kept P told = ⊥

-- what is refused changes nothing
abbrev pub TellsNo : (kept : Type 0) → (words : Looked) → (old new : SessionView) → Looked → Type 0
TellsNo kept words old new told = (told ≡ words) × (new ≡ old) × kept

-- a look, which the store refuses in these words or doesn't: it is refused while an update is out, too, and what the session waits for stays what it was
abbrev pub TellsLook : {E : Type 0} → Option E → (E → Looked) → (kept : Type 0) → (Looked → Type 0)
    → (old new : SessionView) → Looked → Type 0
TellsLook refused words kept P old new told =
    MatchOption old.note.pending (HasGrown old new × (new.note ≡ old.note) × MatchOption refused (TellsSight kept P told) (λ why. TellsNo kept (words why) old new told))
    (λ o. TellsNo kept IsOut old new told)

-- ---- a key

abbrev pub no_key : GetRefused → Looked
no_key why = Refused (refusal letter_S (get_fault_number why)) 0

-- one entry is given where the key stands there, else none
abbrev pub seen_key : Lookup → Looked
seen_key found = Seen found.point (if found.found then 1 else 0) AT_END

-- what stands under the key at a point that is not below what was completed when the session looked
abbrev pub TellsKey : (map : ℕ) → (key before value : List ℕ) → (old new : SessionView) → Looked → Type 0
TellsKey map key before value old new told =
    (found : Lookup) × (told ≡ seen_key found) × IsSeen (λ (f : Lookup) (c : CatalogueView) (state : StoreState). IsUnder state.maps map key before value f) (λ (f : Lookup). f.point) old new found

abbrev pub TellsGot : (map : ℕ) → (key before value : List ℕ) → (old new : AttachedView) → Looked → Type 0
TellsGot map key before value old new told =
    TellsLook (get_refusal old.store.catalogue map (length key) (length before)) no_key (value ≡ before) (TellsKey map key before value old.session new.session)
    old.session new.session told

-- ---- a scan

abbrev pub no_scan : ScanRefused → Looked
no_scan why = Refused (refusal letter_S (scan_fault_number why)) 0

abbrev pub next_word : Option ℕ → ℕ
next_word None = AT_END
next_word (Some place) = place

abbrev pub seen_scan : Scan → Looked
seen_scan s = Seen s.point s.count (next_word s.next)

-- a page of the map, from this place on, at such a point
abbrev pub TellsPage : (map from : ℕ) → (keys keys' values values' : List ℕ) → (old new : SessionView) → Looked → Type 0
TellsPage map from keys keys' values values' old new told =
    (s : Scan) × (told ≡ seen_scan s) × IsSeen (λ (s : Scan) (c : CatalogueView) (state : StoreState). GivesIn c state map from (length keys) (length values) keys' values' s) (λ (s : Scan). s.point) old new s

abbrev pub TellsScanned : (map from : ℕ) → (keys keys' values values' : List ℕ) → (old new : AttachedView) → Looked
    → Type 0
TellsScanned map from keys keys' values values' old new told =
    TellsLook (scan_refusal old.store.catalogue map from) no_scan ((keys' ≡ keys) × (values' ≡ values))
    (TellsPage map from keys keys' values values' old.session new.session) old.session new.session told

-- ---- several reads

abbrev pub no_read : QuestionRefused → Looked
no_read why = Refused (refusal letter_S (store_fault_number why.refused)) why.number

-- by what came of a try
abbrev pub look_of : {A E : Type 0} → (E → Looked) → (A → Looked) → Result (Option A) E → Looked
look_of words seen (Err why) = words why
look_of words seen (Ok None) = Busy
look_of words seen (Ok (Some a)) = seen a

abbrev pub look_each : (count : ℕ) → Result (Option ℕ) QuestionRefused → Looked
look_each count tried = look_of no_read (λ point. Seen point count AT_END) tried

-- the replica of the session's node has caught up with this point: the session put it back so, in its last step on the shelf
pub record HasCaughtUp (old new : SessionView) (point : ℕ) : Type 0 where
  pub node : ℕ
  pub mine : IsSessionOf old.progress.config node old.session
  pub value : Value
  pub tail : MatchOption (replica_of value) ⊥ (λ n. n.replica.tail ≡ point)
  pub before : List (ShelfStep Value)
  pub last : new.steps ≡ Put (replica_place old.progress.config node) value ∷ before

-- the questions were answered at one point; and the node has caught up with it, also if none is asked
pub record TellsReplies (questions : List Question) (replies : List ℕ) (old new : SessionView) (told : Looked) : Type 0 where
  pub point : ℕ
  pub seen : told ≡ Seen point (length questions) AT_END
  pub answers : IsSeen (HaveReplies questions replies) (λ point. point) old new point
  pub up : HasCaughtUp old new point

abbrev pub TellsAnswers : List Question → (before replies : List ℕ) → (old new : AttachedView) → Looked → Type 0
TellsAnswers questions before replies old new told =
    TellsLook (first_refused old.store.catalogue 0 questions) no_read (replies ≡ before) (TellsReplies questions replies old.session new.session)
    old.session new.session told

-- no more than may be asked at once, and a reply for each
abbrev pub AreFew : List Question → (replies : List ℕ) → Type 0
AreFew asked replies = (length asked ≤ MOST_ASKED) × (length replies ≡ length asked)

-- else nothing is asked
pub record TellsMany (asked : List Question) (before replies : List ℕ) (old new : AttachedView) (told : Looked) : Type 0 where
  pub few : AreFew asked before → TellsAnswers asked before replies old new told
  pub many : (AreFew asked before → ⊥) → TellsNo (replies ≡ before) NoWord old.session new.session told

-- ---- a snapshot

-- the state at a point that is not below what was completed when the session looked
abbrev pub TellsState : StoreState → (old new : SessionView) → Looked → Type 0
TellsState left old new told = (point : ℕ) × (told ≡ Seen point 0 AT_END) × IsSeen (IsTaken left) (λ point. point) old new point

-- into a state of the store's sizes; one of others is refused
pub record TellsTaken (state left : StoreState) (old new : AttachedView) (told : Looked) : Type 0 where
  pub sized : sizes_of state ≡ sizes_for old.store.catalogue
      → HasGrown old.session new.session × (new.session.note ≡ old.session.note) × TellsSight (left ≡ state) (TellsState left old.session new.session) told
  pub other : (sizes_of state ≡ sizes_for old.store.catalogue → ⊥)
      → TellsNo (left ≡ state) (Refused other_sizes 0) old.session new.session told

-- none is taken while an update is out
abbrev pub TellsSnapped : (state left : StoreState) → (old new : AttachedView) → Looked → Type 0
TellsSnapped state left old new told = MatchOption old.session.note.pending (TellsTaken state left old new told) (λ o. TellsNo (left ≡ state) IsOut old.session new.session told)

-- ---- what is written

abbrev pub look_status : Looked → ℕ
look_status Busy = busy
look_status (Seen point count next) = done
look_status (Refused status number) = status
look_status NotOpen = not_open
look_status IsOut = is_out
look_status NoWord = no_word

-- the number of the read that is refused
abbrev pub look_number : Looked → ℕ
look_number (Refused status number) = number
look_number told = 0

-- what was seen; where nothing was, the words that stood there
abbrev pub with_sight : Answered → Looked → Answered
with_sight before (Seen point count next) = record before { point = point; count = count; next = next }
with_sight before told = before

abbrev pub noted : Answered → Looked → Answered
noted before told = record (with_sight before told) { status = look_status told; inner = 0; slot = look_number told }

-- ---- a look by a handle

-- on a closed handle it says so, and what the call is to fill stays as it was; else the session tells P, and the handle stays open
pub record Looks (kept : Type 0) (P : (old new : AttachedView) → Looked → Type 0) (before after : SessionHandle) : Type 0 where
  pub asked : after.asked ≡ before.asked
  pub told : Looked
  pub noted : after.answered ≡ noted before.answered told
  pub tells : MatchOption before.own ((told ≡ NotOpen) × (after.own ≡ None) × kept)
      (λ b. MatchOption after.own ⊥ (λ b'. IsSame b b' × P b b' told))

abbrev pub Gets : (map : ℕ) → (key before value : List ℕ) → (before' after : SessionHandle) → Type 0
Gets map key before value = Looks (value ≡ before) (TellsGot map key before value)

abbrev pub Scans : (map from : ℕ) → (keys keys' values values' : List ℕ) → (before after : SessionHandle) → Type 0
Scans map from keys keys' values values' = Looks ((keys' ≡ keys) × (values' ≡ values)) (TellsScanned map from keys keys' values values')

abbrev pub Answers : List Question → (before replies : List ℕ) → (before' after : SessionHandle) → Type 0
Answers asked before replies = Looks (replies ≡ before) (TellsMany asked before replies)

-- into a state: where the handle has none, it says so
abbrev pub TellsInto : (state left : Option StoreState) → (old new : AttachedView) → Looked → Type 0
TellsInto state left old new told =
    MatchOption state ((told ≡ NotOpen) × (left ≡ None) × (new ≡ old)) (λ s. MatchOption left ⊥ (λ s'. TellsSnapped s s' old new told))

pub record Snaps (before after : SessionHandle) (state left : StateHandle) : Type 0 where
  pub looks : Looks (left.own ≡ state.own) (TellsInto state.own left.own) before after
  pub words : left.answered ≡ state.answered

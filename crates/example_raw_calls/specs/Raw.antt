-- What two sessions heard by the calls that C has.
use Rattle.std.specs.Prelude.{◌≡◌, ℕ, List, None, Some}
use Rattle.loader.specs.CatalogueView.{CatalogueView}
use Rattle.loader.specs.StoreState.{StoreState}
use Rattle.oplog.specs.Operations.{Operation}
use Rattle.store.specs.declared.answers.Answer.{Answer}
use Rattle.host_calls.specs.declared.handles.Opening.{Opening}
use Rattle.host_calls.specs.declared.handles.SessionHandle.{SessionHandle}
use Rattle.host_calls.specs.Openings.{Says, sized, sizes_asked}
use Rattle.host_calls.specs.Views.{AttachedView, IsSame}
use Rattle.readpath.specs.declared.reading.ReadAnswer.{ReadAnswer}
use Rattle.example_calls.specs.Heard.{AllAreExplained, HasRead, HasUpdated, HasUpdatedTwice}
use Rattle.example_calls.specs.declared.heard.Heard.{Heard}
use Rattle.example_calls.specs.declared.heard.Programs.{Programs}

-- this session is attached at the handle
abbrev pub Has : SessionHandle → AttachedView → Type 0
Has h a = h.own ≡ Some a

-- a session is, of which no update is out
abbrev pub IsAtRest : SessionHandle → Type 0
IsAtRest h = (a : AttachedView) × Has h a × (a.session.note.pending ≡ None)

-- and the same one after a call
abbrev pub IsLeftAtRest : (before after : SessionHandle) → Type 0
IsLeftAtRest before after = (a : AttachedView) → Has before a
    → (b : AttachedView) × Has after b × IsSame a b × (b.session.note.pending ≡ None)

-- it made this update, and had this answer; and two of them, one after the other
abbrev pub WasUpdated : (before after : SessionHandle) → Operation → Answer → Type 0
WasUpdated before after op answer = (a b : AttachedView) → Has before a → Has after b
    → HasUpdated a.session b.session op answer

abbrev pub WasUpdatedTwice : (before after : SessionHandle) → Operation → (first second : Answer) → Type 0
WasUpdatedTwice before after op first second = (a b : AttachedView) → Has before a → Has after b
    → HasUpdatedTwice a.session b.session op first second

-- it made this read, and had this answer
abbrev pub WasRead : (before after : SessionHandle) → Operation → ReadAnswer → Type 0
WasRead before after op answer = (a b : AttachedView) → Has before a → Has after b
    → HasRead a.session b.session op answer

-- one list of operations explains what they heard, of a store of the manifest's catalogue
pub record AreExplainedBy (o : Opening) (programs : Programs) (argument : List ℕ) (heard : Heard) (answer : ReadAnswer)
    (state : StoreState) : Type 0 where
  pub catalogue : CatalogueView
  pub says : Says o catalogue
  pub explained : AllAreExplained (record { config = sizes_asked o; catalogue = sized (sizes_asked o) catalogue })
      programs argument heard answer state

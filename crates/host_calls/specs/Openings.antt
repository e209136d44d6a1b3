-- What a store is opened with, what it is then, and why it is not opened.
use Rattle.std.specs.Prelude.{◌≡◌, ℕ, ◌<◌, List, None, Some, Option, Result, Ok, Err, MatchOption, IfSome, get_or, length, map, option_map, nat_eq, if◌then◌else◌}
use Rattle.std.specs.Borrow.{Bor}
use Rattle.std.specs.List.{All}
use Rattle.std.specs.Str.{IsUtf8}
use Rattle.std.specs.Arc.{arc_value}
use Rattle.insn.specs.Refusal.{fault_number as decode_number}
use Rattle.verifier.specs.Numbers.{fault_number as verify_number}
use Rattle.loader.specs.CatalogueView.{CatalogueView, MayOpenOn, opened_on, with_long_places}
use Rattle.loader.specs.StoreState.{StoreState}
use Rattle.maps.specs.Shapes.{AreLimits}
use Rattle.loader.specs.Loading.{loaded_within}
use Rattle.loader.specs.ProgramFiles.{Files}
use Rattle.loader.specs.Refusal.{line_of, number_of}
use Rattle.loader.specs.declared.refusals.LoadError.{LoadError}
use Rattle.loader.specs.declared.refusals.LoadError.TheVariants as errors
use Rattle.loader.specs.declared.refusals.LoadFault.TheVariants as faults
use Rattle.loader.specs.declared.refusals.LoadRefusal.{LoadRefusal}
use Rattle.oplog.specs.declared.configuration.Sizes.{Sizes}
use Rattle.oplog.specs.declared.configuration.TheConstants.{ENDLESS}
use Rattle.oplog.specs.declared.configuration.OpenError.TheVariants.{OutOfLimits, NoMemory, OtherState}
use Rattle.oplog.specs.Limits.{AreSizes, open_fault_number}
use Rattle.store_steps.specs.Views.{SessionView}
use Rattle.store.specs.Sessions.{StoreView, fresh_session, fresh_sessions}
use Rattle.store_steps.specs.Shelving.{sessions_of}
use Rattle.host_calls.specs.declared.attached.Attached.{Attached}
use Rattle.host_calls.specs.declared.handles.File.{File}
use Rattle.host_calls.specs.declared.handles.Opening.{Opening as Asked}
use Rattle.host_calls.specs.declared.handles.StoreAnswered.{StoreAnswered}
use Rattle.host_calls.specs.declared.handles.StoreHandle.{StoreHandle}
use Rattle.host_calls.specs.declared.opening.NotOpened.{NotOpened}
use Rattle.host_calls.specs.declared.opening.NotOpened.TheVariants.{BadLimits, NoText, Loading, Opening}
use Rattle.host_calls.specs.declared.pool.Pool.{Pool}
use Rattle.host_calls.specs.Statuses.{done, letter_C, letter_D, letter_O, letter_V, no_text, out_of_limits, refusal}
use Rattle.host_calls.specs.Views.{AttachedView}
use Rattle.host_calls.specs.Words.{no_store_words}

-- ---- what is asked

-- how many updates a history may have: 0 is no end
abbrev pub limit_of : ℕ → ℕ
limit_of n = if nat_eq n 0 then ENDLESS else n

abbrev pub sizes_asked : Asked → Sizes
sizes_asked o = record { nodes = o.nodes; slots = o.slots; window = o.window; limit = limit_of o.limit; spare = o.spare; long = o.long }

-- the catalogue with places as these sizes have them
abbrev pub sized : Sizes → CatalogueView → CatalogueView
sized z c = with_long_places c z.spare z.long

-- the files' names and texts
abbrev pub texts_of : List File → Files
texts_of files = map (λ f. (f.name.now, f.text.now)) files

-- what the manifest says
abbrev pub reading_of : Asked → Result CatalogueView LoadRefusal
reading_of o = loaded_within o.limits o.manifest.now (texts_of o.files.now)

-- the files' names and texts are UTF-8
abbrev pub AreUtf8 : List File → Type 0
AreUtf8 files = All (λ f. IsUtf8 f.name.now × IsUtf8 f.text.now) files

-- the manifest's text too
abbrev pub AreTexts : Asked → Type 0
AreTexts o = IsUtf8 o.manifest.now × AreUtf8 o.files.now

-- all texts are UTF-8, and the manifest says this catalogue
abbrev pub Says : Asked → CatalogueView → Type 0
Says o c = AreTexts o × (reading_of o ≡ Ok c)

-- the state that is lent, if one is
abbrev pub state_in : Option (Bor StoreState) → Option StoreState
state_in lent = option_map (λ s. s.now) lent

-- ---- what is opened

-- a catalogue whose stores open on this state, or on a new one where there is none
abbrev pub catalogue_on : CatalogueView → Option StoreState → CatalogueView
catalogue_on c None = c
catalogue_on c (Some s) = opened_on c s

-- a store of these sizes, and of the maps and programs of the manifest, on this state, which it may be opened on
pub record IsStoreOf (o : Asked) (on : Option StoreState) (s : StoreView) : Type 0 where
  pub config : s.config ≡ sizes_asked o
  pub catalogue : CatalogueView
  pub says : Says o catalogue
  pub may : IfSome on (MayOpenOn (sized (sizes_asked o) catalogue))
  pub offers : s.catalogue ≡ catalogue_on (sized (sizes_asked o) catalogue) on

-- the first sessions of a store, so many, and what is known of the session k
abbrev pub fresh_of : StoreView → ℕ → List SessionView
fresh_of s n = fresh_sessions s.id s.config s.catalogue 0 n

abbrev pub fresh_seat : StoreView → ℕ → AttachedView
fresh_seat s k = record { store = s; place = k; session = fresh_session s.id s.config s.catalogue k }

-- at this place stands the session of its number
abbrev pub IsSeat : StoreView → List (Option Attached) → ℕ → Type 0
IsSeat s places k = MatchOption (get_or places k None) ⊥ (λ a. a ≡ fresh_seat s k)

-- a pool of such a store, with so many sessions a node, which are all there
pub record IsPoolOf (o : Asked) (on : Option StoreState) (p : Pool) : Type 0 where
  pub store : IsStoreOf o on (arc_value p.store)
  pub slots : p.slots ≡ o.slots
  pub count : length p.places.items ≡ sessions_of (sizes_asked o)
  pub seats : (k : ℕ) → k < sessions_of (sizes_asked o) → IsSeat (arc_value p.store) p.places.items k

-- ---- why it is not opened

-- no store of this catalogue may be opened on the state that there is
abbrev pub IsOther : CatalogueView → Option StoreState → Type 0
IsOther c on = MatchOption on ⊥ (λ s. MayOpenOn c s → ⊥)

abbrev pub IsReason : Asked → Option StoreState → NotOpened → Type 0
IsReason o on BadLimits = (AreLimits o.limits → ⊥)
IsReason o on NoText = (AreTexts o → ⊥)
IsReason o on (Loading errors.NoMemory) = Unit {0}
IsReason o on (Loading (errors.Refused bad)) = AreTexts o × (reading_of o ≡ Err bad)
IsReason o on (Opening OutOfLimits) = AreTexts o × (AreSizes (sizes_asked o) → ⊥)
IsReason o on (Opening NoMemory) = Unit {0}
IsReason o on (Opening OtherState) = AreSizes (sizes_asked o) × ((c : CatalogueView) × Says o c × IsOther (sized (sizes_asked o) c) on)

-- it says something of the limits or the texts, and not of the sizes or the state
abbrev pub IsOfTexts : NotOpened → Type 0
IsOfTexts BadLimits = Unit {0}
IsOfTexts NoText = Unit {0}
IsOfTexts (Loading why) = Unit {0}
IsOfTexts (Opening why) = ⊥

-- of the program of a bad line: why the decoder or the verifier refuses it, and at which slot
abbrev pub inner_in : LoadError → ℕ × ℕ
inner_in errors.NoMemory = (0, 0)
inner_in (errors.Refused bad) = elim bad.why as (λ _. ℕ × ℕ) [ faults.Decode why ↦ (refusal letter_D (decode_number why.why), why.slot) | faults.Verify why ↦ (refusal letter_V (verify_number why.why), why.slot) | _ ↦ (0, 0) ]

abbrev pub only : ℕ → StoreAnswered
only status = record { status = status; line = 0; inner = 0; slot = 0; number = 0 }

-- the words that say it
abbrev pub words_of : NotOpened → StoreAnswered
words_of BadLimits = only out_of_limits
words_of NoText = only no_text
words_of (Opening why) = only (refusal letter_O (open_fault_number why))
words_of (Loading why) = record { status = refusal letter_C (number_of why); line = line_of why; inner = (inner_in why).0; slot = (inner_in why).1; number = 0 }

-- ---- the handle

-- The handle asks nothing. It is closed, and says why; or it is open, with a store as it was asked for, on this state,
-- or on a new one where there is none.
pub record IsOpened (o : Asked) (on : Option StoreState) (after : StoreHandle) : Type 0 where
  pub asked : after.asked ≡ no_store_words
  pub opened : MatchOption after.own ((why : NotOpened) × IsReason o on why × (after.answered ≡ words_of why)) (λ b. IsPoolOf o on b.value × (after.answered ≡ only done))

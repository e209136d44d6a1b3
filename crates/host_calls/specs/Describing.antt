-- What a call on a handle says of a map, of a program, and of the store; and the words in which it does.
use Rattle.std.specs.Prelude.{◌≡◌, ℕ, min, List, [], ◌++◌, length, take, drop, replicate, None, Some, Option, MatchOption, slice_get, if◌then◌else◌}
use Rattle.std.specs.Option.{option_map}
use Rattle.std.specs.Arc.{arc_value}
use Rattle.maps.specs.declared.shapes.Shape.{Shape}
use Rattle.maps.specs.declared.shapes.Shape.TheVariants.{Array, Hash}
use Rattle.maps.specs.Shapes.{entry_count, key_size, value_size}
use Rattle.verifier.specs.declared.refusal.Mode.{Mode}
use Rattle.verifier.specs.declared.refusal.Mode.TheVariants.{Update, Read}
use Rattle.loader.specs.CatalogueView.{CatalogueView}
use Rattle.oplog.specs.declared.configuration.Sizes.{Sizes}
use Rattle.store_steps.specs.declared.describing.InfoRefused.{InfoRefused}
use Rattle.store_steps.specs.declared.describing.MapInfo.{MapInfo}
use Rattle.store_steps.specs.declared.describing.ProgramFacts.{ProgramFacts}
use Rattle.store_steps.specs.declared.describing.ProgramInfo.{ProgramInfo}
use Rattle.store_steps.specs.Describing.{info_fault_number, map_refusal, program_refusal}
use Rattle.store_steps.specs.Views.{SessionView}
use Rattle.store.specs.Describing.{IsMapAsTold, IsProgramAsTold}
use Rattle.store.specs.Sessions.{StoreView}
use Rattle.host_calls.specs.declared.attached.Looked.{Looked}
use Rattle.host_calls.specs.declared.attached.Looked.TheVariants.{Seen, Refused}
use Rattle.host_calls.specs.declared.describing.FactWords.{FactWords}
use Rattle.host_calls.specs.declared.describing.MapWords.{MapWords}
use Rattle.host_calls.specs.declared.describing.NameWords.{NameWords}
use Rattle.host_calls.specs.declared.describing.ProgramWords.{ProgramWords}
use Rattle.host_calls.specs.declared.describing.StoreWords.{StoreWords}
use Rattle.host_calls.specs.declared.handles.SessionHandle.{SessionHandle}
use Rattle.host_calls.specs.declared.handles.StoreHandle.{StoreHandle}
use Rattle.host_calls.specs.declared.handles.TheConstants.{AT_END, NAME_ROOM}
use Rattle.host_calls.specs.CallResults.{IsSeen}
use Rattle.host_calls.specs.Looks.{Looks, TellsLook}
use Rattle.host_calls.specs.Statuses.{done, letter_S, not_open, refusal}
use Rattle.host_calls.specs.Stores.{IsStatusAlone}
use Rattle.host_calls.specs.Views.{AttachedView}

abbrev pub no_info : InfoRefused → Looked
no_info why = Refused (refusal letter_S (info_fault_number why)) 0

-- ---- a map

abbrev pub kind_word : Shape → ℕ
kind_word (Array value entries) = 0
kind_word (Hash key value entries) = 1

abbrev pub map_words : (map : ℕ) → MapInfo → MapWords
map_words map info = record {
  map = map;
  point = info.point;
  keys = info.keys;
  entries = entry_count info.shape;
  kind = kind_word info.shape;
  key = key_size info.shape;
  value = value_size info.shape;
}

-- the words are those of what is so of the map, at a point that is not below what was completed when the session looked
abbrev pub TellsMap : (words left : MapWords) → (old new : SessionView) → Looked → Type 0
TellsMap words left old new told =
    (info : MapInfo) × (told ≡ Seen info.point info.keys AT_END) × (left ≡ map_words words.map info)
    × IsSeen (IsMapAsTold words.map) (λ (i : MapInfo). i.point) old new info

abbrev pub TellsMapAsked : (words left : MapWords) → (old new : AttachedView) → Looked → Type 0
TellsMapAsked words left old new told =
    TellsLook (map_refusal old.store.catalogue words.map) no_info (left ≡ words) (TellsMap words left old.session new.session) old.session new.session told

abbrev pub DescribesMap : (before after : SessionHandle) → (words left : MapWords) → Type 0
DescribesMap before after words left = Looks (left ≡ words) (TellsMapAsked words left) before after

-- ---- a program

abbrev pub mode_word : Mode → ℕ
mode_word Update = 0
mode_word Read = 1

-- zeros if there is no program
abbrev pub fact_words : Option ProgramFacts → FactWords
fact_words None = record { present = 0; mode = 0; argument = 0; slots = 0; maps = 0 }
fact_words (Some facts) = record { present = 1; mode = mode_word facts.mode; argument = facts.arg_len; slots = facts.slots; maps = facts.maps }

-- the name of a program of the manifest; else no bytes
abbrev pub name_or_none : Option (List ℕ) → List ℕ
name_or_none None = []
name_or_none (Some name) = name

abbrev pub name_of : CatalogueView → ℕ → List ℕ
name_of c k = name_or_none (option_map (λ e. e.name) (slice_get c.programs k))

-- how long a name is, and the first of its bytes, with zeros after them
abbrev pub name_words : List ℕ → NameWords
name_words name = record { length = length name; bytes = take (min (length name) NAME_ROOM) name ++ drop (min (length name) NAME_ROOM) (replicate NAME_ROOM 0) }

abbrev pub program_words : (k : ℕ) → ProgramInfo → (name : List ℕ) → ProgramWords
program_words k info name = record { program = k; point = info.point; place = if info.at_place then 1 else 0; facts = fact_words info.facts; name = name_words name }

-- the words are those of what is so of the program, at such a point
abbrev pub TellsProgram : (words left : ProgramWords) → (old new : AttachedView) → Looked → Type 0
TellsProgram words left old new told =
    (info : ProgramInfo) × (told ≡ Seen info.point 0 AT_END) × (left ≡ program_words words.program info (name_of old.store.catalogue words.program))
    × IsSeen (IsProgramAsTold words.program) (λ (i : ProgramInfo). i.point) old.session new.session info

abbrev pub TellsProgramAsked : (words left : ProgramWords) → (old new : AttachedView) → Looked → Type 0
TellsProgramAsked words left old new told =
    TellsLook (program_refusal old.store.catalogue words.program) no_info (left ≡ words) (TellsProgram words left old new) old.session new.session told

abbrev pub DescribesProgram : (before after : SessionHandle) → (words left : ProgramWords) → Type 0
DescribesProgram before after words left = Looks (left ≡ words) (TellsProgramAsked words left) before after

-- ---- a store

-- sizes, and how many maps and programs there are
abbrev pub size_words : Sizes → (maps programs : ℕ) → StoreWords
size_words sizes maps programs = record {
  nodes = sizes.nodes;
  slots = sizes.slots;
  window = sizes.window;
  limit = sizes.limit;
  spare = sizes.spare;
  maps = maps;
  programs = programs;
  long = sizes.long;
}

-- the sizes that it was opened with, and how many maps and programs its manifest has
abbrev pub store_words : StoreView → StoreWords
store_words s = size_words s.config (length s.catalogue.shapes) (length s.catalogue.programs)

-- of an open store; on a closed handle the words stay what they were
pub record DescribesStore (before after : StoreHandle) (words left : StoreWords) : Type 0 where
  pub own : after.own ≡ before.own
  pub asked : after.asked ≡ before.asked
  pub answered : IsStatusAlone before.answered after.answered
  pub tells : MatchOption before.own ((after.answered.status ≡ not_open) × (left ≡ words)) (λ b. (after.answered.status ≡ done) × (left ≡ store_words (arc_value b.value.store)))

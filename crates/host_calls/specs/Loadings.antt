-- The state that a text says, and why a text is not loaded as one.
use Rattle.std.specs.Prelude.{◌≡◌, ℕ, ◌≤◌, List, Ok, Err, MatchOption}
use Rattle.std.specs.Str.{IsUtf8}
use Rattle.insn.specs.Refusal.{fault_number as decode_number}
use Rattle.verifier.specs.Numbers.{fault_number as verify_number}
use Rattle.maps.specs.Shapes.{AreLimits}
use Rattle.loader.specs.CatalogueView.{CatalogueView, sizes_for}
use Rattle.loader.specs.StoreState.{StateSizes, StoreState}
use Rattle.loader.specs.Refusal.{line_of, number_of}
use Rattle.loader.specs.declared.installed.InstallRefusal.{InstallRefusal}
use Rattle.loader.specs.declared.installed.InstallRefusal.TheVariants as installs
use Rattle.loader.specs.declared.installed.TheConstants.{MOST_LONG, MOST_SPARE}
use Rattle.loader.specs.declared.refusals.LoadError.TheVariants as errors
use Rattle.dumps.specs.Loading.{loaded_state}
use Rattle.dumps.specs.Refusal.{LoadFails, line_of as dump_line, number_of as dump_number}
use Rattle.dumps.specs.declared.refusals.DumpError.{DumpError}
use Rattle.dumps.specs.declared.refusals.DumpError.TheVariants as dumps
use Rattle.dumps.specs.declared.refusals.DumpFault.{DumpFault}
use Rattle.dumps.specs.declared.refusals.DumpFault.TheVariants as faults
use Rattle.host_calls.specs.declared.handles.Opening.{Opening as Asked}
use Rattle.host_calls.specs.declared.handles.StateAnswered.{StateAnswered}
use Rattle.host_calls.specs.declared.handles.StateHandle.{StateHandle}
use Rattle.host_calls.specs.declared.loading.NotLoaded.{NotLoaded}
use Rattle.host_calls.specs.declared.loading.NotLoaded.TheVariants.{BadLimits, NoText, Manifest, TooMuchRoom, Text}
use Rattle.host_calls.specs.Leaving.{only_state}
use Rattle.host_calls.specs.Openings.{AreTexts, Says, inner_in, reading_of, sized, sizes_asked}
use Rattle.host_calls.specs.Statuses.{done, letter_C, letter_D, letter_E, letter_V, no_text, out_of_limits, refusal}

-- a store may have so many places, for programs of so many bytes
abbrev pub HasRoomAsked : Asked → Type 0
HasRoomAsked o = (o.spare ≤ MOST_SPARE) × (o.long ≤ MOST_LONG)

-- the sizes of the states that are asked for, of a catalogue's maps
abbrev pub sizes_of_states : Asked → CatalogueView → StateSizes
sizes_of_states o c = sizes_for (sized (sizes_asked o) c)

-- the state that this text says, for stores of the catalogue that the manifest says, with so many places
abbrev pub IsStateOf : Asked → List ℕ → StoreState → Type 0
IsStateOf o text s = (c : CatalogueView) × Says o c × HasRoomAsked o × (loaded_state (sizes_of_states o c) text ≡ Ok s)

-- why there is none
abbrev pub IsLoadReason : Asked → List ℕ → NotLoaded → Type 0
IsLoadReason o text BadLimits = (AreLimits o.limits → ⊥)
IsLoadReason o text NoText = (AreTexts o × IsUtf8 text → ⊥)
IsLoadReason o text (Manifest errors.NoMemory) = Unit {0}
IsLoadReason o text (Manifest (errors.Refused bad)) = AreTexts o × (reading_of o ≡ Err bad)
IsLoadReason o text TooMuchRoom = AreTexts o × (HasRoomAsked o → ⊥)
IsLoadReason o text (Text why) = (c : CatalogueView) × Says o c × LoadFails why (loaded_state (sizes_of_states o c) text)

-- why a program of the text is refused, and at which slot
abbrev pub install_inner : InstallRefusal → ℕ × ℕ
install_inner (installs.Decode why) = (refusal letter_D (decode_number why.why), why.slot)
install_inner (installs.Verify why) = (refusal letter_V (verify_number why.why), why.slot)

abbrev pub fault_inner : DumpFault → ℕ × ℕ
fault_inner (faults.Program why) = install_inner why
fault_inner why = (0, 0)

abbrev pub text_inner : DumpError → ℕ × ℕ
text_inner dumps.NoMemory = (0, 0)
text_inner (dumps.Refused bad) = fault_inner bad.why

-- the words that say it
abbrev pub load_words : NotLoaded → StateAnswered
load_words BadLimits = only_state out_of_limits
load_words NoText = only_state no_text
load_words (Manifest why) = record { status = refusal letter_C (number_of why); line = line_of why; inner = (inner_in why).0; slot = (inner_in why).1 }
load_words TooMuchRoom = only_state out_of_limits
load_words (Text why) = record { status = refusal letter_E (dump_number why); line = dump_line why; inner = (text_inner why).0; slot = (text_inner why).1 }

-- the handle has that state, or none, and says why
abbrev pub IsLoaded : Asked → List ℕ → StateHandle → Type 0
IsLoaded o text given =
    MatchOption given.own ((why : NotLoaded) × IsLoadReason o text why × (given.answered ≡ load_words why)) (λ s. IsStateOf o text s × (given.answered ≡ only_state done))

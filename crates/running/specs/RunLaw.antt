-- What `run` writes, from the bytes that it reads to its lines, and the state that it leaves.
use Rattle.std.specs.Prelude.{◌≡◌, ◌≢◌, ◌⊎◌, ℕ, ◌+◌, ◌<◌, Bool, List, [], ◌∷◌, ◌++◌, length, codes, decimal, Option, Some, None, option_and_then, Result, Ok, Err, if◌then◌else◌}
use Rattle.encoding.specs.declared.faults.EncodeRefusal.{EncodeRefusal}
use Rattle.encoding.specs.Encoded.{encoded_text}
use Rattle.encoding.specs.Faults.{refusal_line}
use Rattle.verifier.specs.declared.refusal.Mode.{Mode}
use Rattle.verifier.specs.declared.refusal.Mode.TheVariants.{Update, Read}
use Rattle.verifier.specs.Accepted.{Checked}
use Rattle.machine.specs.Effects.{Effect as RunEffect}
use Rattle.text.specs.Lines.{lines_of, next_line}
use Rattle.loader.specs.CatalogueView.{CatalogueView, number_named, opened_on, opening_state, sizes_for}
use Rattle.loader.specs.Installed.{installed_program}
use Rattle.loader.specs.StoreState.{StoreState}
use Rattle.dumps.specs.declared.refusals.DumpRefusal.{DumpRefusal}
use Rattle.dumps.specs.Dumping.{dump}
use Rattle.dumps.specs.Loading.{loaded_state}
use Rattle.oplog.specs.Calls.{Call as TheCall, NewProgram}
use Rattle.oplog.specs.declared.configuration.TheConstants.{MAX_LIMIT}
use Rattle.replica.specs.StoreMeaning.{IsCall, IsInstallable, placed, program_at}
use Rattle.replica.specs.HistoryLaws.{IsEffectOf}
use Rattle.replica.specs.declared.refusals.StoreRefused.{StoreRefused}
use Rattle.scripts.specs.Script.{Meaning, Comment, Call, InvokeAt, ReadAt, Install, line_meaning}
use Rattle.engine.specs.declared.parted.Destination.{Destination}
use Rattle.engine.specs.declared.parted.Destination.TheVariants as destinations
use Rattle.engine.specs.declared.parted.Parted.{Parted}
use Rattle.engine.specs.declared.performing.Performed.{Performed}
use Rattle.engine.specs.declared.replies.Status.{Status}
use Rattle.engine.specs.declared.replies.Status.TheVariants as statuses
use Rattle.engine.specs.Engine.{PerformsRead}
use Rattle.engine.specs.Opening.{with_places_for}
use Rattle.engine.specs.Parted.{parted_of}
use Rattle.engine.specs.Reading.{Given}
use Rattle.engine.specs.StateAnswer.{refusal_text}
use Rattle.engine.specs.Written.{AreTexts, IsManifestRefused, IsNotText, IsWritten, loads}
use Rattle.running.specs.declared.single_node.TheConstants.{RUN_PLACES}
use Rattle.running.specs.CalledRun.{called_run}
use Rattle.running.specs.KeptRun.{dumped_run}
use Rattle.running.specs.RunAnswer.{install_text, read_text, refused_text, update_text}
use Rattle.running.specs.RunLines.{IsWhySaid}
use Rattle.running.specs.Signed.{signed_text}

-- ---- what a run begins on

-- The manifest is good, and four more programs may be installed, longer ones if the maps may be large. The run begins on a new state if the state's text is empty, else on the one that the
-- text says
pub data BeginsOn (g : Given) : CatalogueView → Type 0 where
  new : (loaded : CatalogueView) → loads g ≡ Ok loaded → g.state ≡ [] → BeginsOn g (with_places_for g.sizes loaded RUN_PLACES)
  given : (loaded : CatalogueView) (state : StoreState) → loads g ≡ Ok loaded → g.state ≢ [] → loaded_state (sizes_for (with_places_for g.sizes loaded RUN_PLACES)) g.state ≡ Ok state
      → BeginsOn g (opened_on (with_places_for g.sizes loaded RUN_PLACES) state)

-- ---- one line

-- a call of this mode by the number of its program
abbrev pub by_number : Mode → TheCall → Meaning
by_number Update call = InvokeAt call
by_number Read call = ReadAt call

-- the line names a program of the manifest, which has this mode and the number of this call
pub record AsksByName (c : CatalogueView) (line : List ℕ) (mode : Mode) (call : TheCall) : Type 0 where
  pub name : List ℕ
  pub program : Checked
  pub says : line_meaning line ≡ Some (Call (record { name = name; argument = call.argument }))
  pub number : number_named c.programs name ≡ Some call.program
  pub named : program_at c call.program ≡ Some program
  pub mode_is : program.mode ≡ mode

-- the line asks for a call that there is, in this mode
abbrev pub Asks : CatalogueView → List ℕ → Mode → TheCall → Type 0
Asks c line mode call = (AsksByName c line mode call ⊎ (line_meaning line ≡ Some (by_number mode call))) × IsCall mode c call

-- What a line writes on a state after so many updates, how many there are then, and the state that the line leaves
pub data IsTurn (c : CatalogueView) (n : ℕ) (s : StoreState) (line : List ℕ) : List ℕ → ℕ → StoreState → Type 0 where
  -- a comment and an empty line write nothing
  comment : line_meaning line ≡ Some Comment → IsTurn c n s line [] n s
  -- a line that is refused writes the reason, and changes nothing
  refused : (said : Meaning) (why : StoreRefused) → line_meaning line ≡ Some said → IsWhySaid MAX_LIMIT c n said why → IsTurn c n s line (refused_text why) n s
  -- a read runs its program on the state, which stays
  read : (call : TheCall) (done : RunEffect) → Asks c line Read call → IsEffectOf Read c call s done → IsTurn c n s line (read_text n done.reply done.steps) n s
  -- an update runs its program on the state, and leaves the maps of this run
  update : (call : TheCall) (done : RunEffect) → n < MAX_LIMIT → Asks c line Update call → IsEffectOf Update c call s done
      → IsTurn c n s line (update_text n done.reply done.steps) (n + 1) (record s { maps = done.maps })
  -- an install adds the program that its bytes spell, if a place is free
  install : (asked : NewProgram) (program : Checked) → n < MAX_LIMIT → line_meaning line ≡ Some (Install asked) → IsInstallable c asked
      → installed_program c.shapes asked.mode asked.arg_len asked.bytes ≡ Ok program
      → IsTurn c n s line (install_text n (placed c s program).reply) (n + 1) (placed c s program).left

-- ---- all lines

-- good lines, each in its turn, from a state after so many updates: what they write, and the state that they leave
pub data AreRun (c : CatalogueView) : ℕ → StoreState → List (List ℕ) → List ℕ → StoreState → Type 0 where
  none : (n : ℕ) (s : StoreState) → AreRun c n s [] [] s
  line : (n m : ℕ) (s t left : StoreState) (first : List ℕ) (lines : List (List ℕ)) (text more : List ℕ) → IsTurn c n s first text m t → AreRun c m t lines more left
      → AreRun c n s (first ∷ lines) (text ++ more) left

-- the texts, the manifest, the state and all lines of the script are good: what the lines write, and the state that they leave
abbrev pub IsGoodRun : Given → List ℕ → List ℕ → StoreState → Type 0
IsGoodRun g script text left = AreTexts g × (c : CatalogueView) × BeginsOn g c × AreRun c 0 (opening_state c) (lines_of script) text left

-- no line is run, since a text, the manifest or the state is refused: what is written then
pub data IsUnrun (g : Given) : List ℕ → Type 0 where
  not_text : (text : List ℕ) → IsNotText g text → IsUnrun g text
  manifest : (text : List ℕ) → IsManifestRefused g text → IsUnrun g text
  state : (loaded : CatalogueView) (refusal : DumpRefusal) → AreTexts g → loads g ≡ Ok loaded → loaded_state (sizes_for (with_places_for g.sizes loaded RUN_PLACES)) g.state ≡ Err refusal
      → IsUnrun g (refusal_text refusal)

-- no line is run, or those before the first bad one are, and `line N bad` is the last
pub data IsRefusedRun (g : Given) (script : List ℕ) : List ℕ → Type 0 where
  unrun : (text : List ℕ) → IsUnrun g text → IsRefusedRun g script text
  bad : (c : CatalogueView) (before after : List (List ℕ)) (line text : List ℕ) (left : StoreState) → AreTexts g → BeginsOn g c
      → lines_of script ≡ before ++ line ∷ after → AreRun c 0 (opening_state c) before text left → line_meaning line ≡ None
      → IsRefusedRun g script (text ++ (codes "line " ++ (decimal (next_line (length before)) ++ codes " bad\n")))

-- ---- what is written

-- with `--signed` a line that tells a negative reply ends with it
abbrev pub with_signs : Bool → List ℕ → List ℕ
with_signs is_signed text = if is_signed then signed_text text else text

-- with `--dump -` the text of the state comes after the lines
abbrev pub dump_after : Destination → StoreState → List ℕ
dump_after destinations.Writer left = dump left
dump_after destinations.Nowhere left = []
dump_after destinations.Elsewhere left = []

module _ (is_signed : Bool) (to : Destination) (g : Given) (script : List ℕ) where
  -- what a good run writes
  abbrev pub IsGoodText : List ℕ → Type 0
  IsGoodText text = (lines : List ℕ) × (left : StoreState) × IsGoodRun g script lines left × (text ≡ with_signs is_signed lines ++ dump_after to left)

  -- what a refused run writes; it leaves no state
  abbrev pub IsRefusedText : List ℕ → Type 0
  IsRefusedText text = (lines : List ℕ) × IsRefusedRun g script lines × (text ≡ with_signs is_signed lines)

-- with `--dump FILE` the text of the state is handed back if all is good and written, and nothing is otherwise
abbrev pub IsHandedBack : Given → List ℕ → Destination → Status → Option (List ℕ) → Type 0
IsHandedBack g script destinations.Elsewhere statuses.Good handed = (lines : List ℕ) × (left : StoreState) × IsGoodRun g script lines left × (handed ≡ Some (dump left))
IsHandedBack g script to status handed = handed ≡ None

-- what is handed back of what was made
abbrev pub handed_back : Performed Parted → Option (List ℕ)
handed_back done = option_and_then (λ p. (parted_of p).elsewhere) done.made

-- ---- the laws

-- what was written and handed back for this script
abbrev pub IsDone : Bool → Destination → Given → List ℕ → List ℕ → Performed Parted → Type 0
IsDone is_signed to g script text done =
    IsWritten (IsGoodText is_signed to g script) (IsRefusedText is_signed to g script) text done.status × IsHandedBack g script to done.status (handed_back done)

-- whatever there is to read, `run` adds such a text to what a writer held, and hands back the text of the state for a file
abbrev pub RunWrites : Type 0
RunWrites =
    (is_signed : Bool) (to : Destination) (g : Given) (old new : List ℕ) (done : Performed Parted)
    → PerformsRead (λ p. (parted_of p).answer) (λ t p. parted_of p ≡ dumped_run is_signed to t) Some old new done g
    → (text : List ℕ) × (new ≡ old ++ text) × IsDone is_signed to g g.file text done

-- the calls are refused and no line is run: a text, the manifest or the state is refused; or these are good, and the line of the first wrong place is written
abbrev pub IsRefusedCalls : Given → EncodeRefusal → List ℕ → Type 0
IsRefusedCalls g refusal text = IsUnrun g text ⊎ (AreTexts g × (c : CatalogueView) × BeginsOn g c × (text ≡ refusal_line refusal))

-- by what the calls are as a script
abbrev pub AreCallsDone : Bool → Destination → Given → Result (List ℕ) EncodeRefusal → List ℕ → Performed Parted → Type 0
AreCallsDone is_signed to g (Ok script) text done = IsDone is_signed to g script text done
AreCallsDone is_signed to g (Err refusal) text done = IsWritten (λ _. ⊥) (IsRefusedCalls g refusal) text done.status × (handed_back done ≡ None)

-- `run --calls` does so with the script that `encode` writes, or with its refusal
abbrev pub CallsWrite : Type 0
CallsWrite =
    (is_signed : Bool) (to : Destination) (g : Given) (old new : List ℕ) (done : Performed Parted)
    → PerformsRead (λ p. (parted_of p).answer) (λ t p. parted_of p ≡ called_run is_signed to t) Some old new done g
    → (text : List ℕ) × (new ≡ old ++ text) × AreCallsDone is_signed to g (encoded_text g.file) text done

-- ---- and nothing else

-- all of what there was to write was written
abbrev pub IsWhole : Status → Type 0
IsWhole status = (status ≡ statuses.Good) ⊎ (status ≡ statuses.Refused)

-- two results are one: the text that was written, the status, and what is handed back
abbrev pub AreOne : (text other : List ℕ) → (done again : Performed Parted) → Type 0
AreOne text other done again = (text ≡ other) × (done.status ≡ again.status) × (handed_back done ≡ handed_back again)

-- whatever there is to read, `IsDone` is so of one result alone, if all of it was written
abbrev pub RunIsUnique : Type 0
RunIsUnique =
    (is_signed : Bool) (to : Destination) (g : Given) (script text other : List ℕ) (done again : Performed Parted)
    → IsDone is_signed to g script text done → IsDone is_signed to g script other again → IsWhole done.status → IsWhole again.status → AreOne text other done again

-- and so is `AreCallsDone` of calls
abbrev pub CallsAreUnique : Type 0
CallsAreUnique =
    (is_signed : Bool) (to : Destination) (g : Given) (text other : List ℕ) (done again : Performed Parted)
    → AreCallsDone is_signed to g (encoded_text g.file) text done → AreCallsDone is_signed to g (encoded_text g.file) other again → IsWhole done.status → IsWhole again.status
    → AreOne text other done again

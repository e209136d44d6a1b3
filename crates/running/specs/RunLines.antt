-- What stands behind the lines that a run writes: each update and each read is a run of its program.
use Rattle.std.specs.Prelude.{◌≡◌, ◌≢◌, ◌⊎◌, ℕ, ◌+◌, ◌<◌, ◌≤◌, List, [], ◌∷◌, length, Some, None, Ok}
use Rattle.verifier.specs.declared.refusal.Mode.{Mode}
use Rattle.verifier.specs.declared.refusal.Mode.TheVariants.{Update, Read}
use Rattle.verifier.specs.Accepted.{Checked}
use Rattle.machine.specs.Effects.{IsRun, Effect as RunEffect}
use Rattle.text.specs.Lines.{next_line}
use Rattle.loader.specs.CatalogueView.{CatalogueView, IsCatalogue, number_named, with_places}
use Rattle.loader.specs.declared.installed.TheConstants.{MOST_SPARE}
use Rattle.loader.specs.Installed.{installed_program, most_argument}
use Rattle.loader.specs.ProgramFiles.{Files}
use Rattle.maps.specs.declared.shapes.MapLimits.{MapLimits}
use Rattle.maps.specs.Shapes.{AreLimits}
use Rattle.loader.specs.Loading.{loaded_within}
use Rattle.oplog.specs.Calls.{Call as TheCall, NewProgram}
use Rattle.oplog.specs.declared.records.Op.TheVariants.{Run, Install as AnInstall}
use Rattle.oplog.specs.History.{History}
use Rattle.replica.specs.StoreMeaning.{AreUpdates, IsOperation, program_at, placed}
use Rattle.replica.specs.HistoryLaws.{IsEffectOf}
use Rattle.replica.specs.Refusals.{install_refusal}
use Rattle.replica.specs.declared.refusals.StoreRefused.{StoreRefused}
use Rattle.replica.specs.declared.refusals.StoreRefused.TheVariants.{UnknownProgram, ArgumentLength, WrongMode, Ended}
use Rattle.engine.specs.declared.replies.Verdict.TheVariants as verdicts
use Rattle.engine.specs.Answer.{Answer}
use Rattle.scripts.specs.Script.{ProgramCall, Meaning, Comment, Call, InvokeAt, ReadAt, Install, line_meaning}
use Rattle.running.specs.RunAnswer.{Turn, update_text, read_text, install_text, refused_text, with_operation, behind, bad_line, line_turn, lines_answer, state_of}
use Rattle.engine.specs.StateAnswer.{on_text}

-- what a call does on the state after the whole history: the run of its program there, or nothing, with the reply that there is none
abbrev pub CallDoes : CatalogueView → History → TheCall → Mode → RunEffect → Type 0
CallDoes c h call mode done = IsEffectOf mode c call (state_of c h) done

-- the call runs a program of the catalogue, of this mode
pub record CallRuns (c : CatalogueView) (h : History) (call : TheCall) (mode : Mode) (done : RunEffect) : Type 0 where
  pub program : Checked
  pub named : program_at c call.program ≡ Some program
  pub mode_is : program.mode ≡ mode
  pub run : IsRun program.program (state_of c h).maps call.argument done

-- ---- why a call is refused

-- the argument hasn't the length that the program asks for, or it is too long for any program that may come to stand at the place
abbrev pub HasOtherLength : CatalogueView → TheCall → Type 0
HasOtherLength c call =
    ((p : Checked) × (program_at c call.program ≡ Some p) × (length call.argument ≢ p.arg_len))
    ⊎ ((length c.programs ≤ call.program) × (call.program < length c.programs + c.places) × (most_argument c.long < length call.argument))

-- ---- turns

-- a read wrote the number of updates before it and what it does, and the history stays
pub record IsReadTurn (c : CatalogueView) (h : History) (call : TheCall) (turn : Turn) : Type 0 where
  pub asked : IsOperation Read c (Run call)
  pub done : RunEffect
  pub does : CallDoes c h call Read done
  pub text : turn.text ≡ read_text (length h) done.reply done.steps
  pub same : turn.history ≡ h
  pub left : done.maps ≡ (state_of c h).maps

-- what is refused for such a reason wrote its number, and the history stays
pub record IsRefusedTurn (Why : StoreRefused → Type 0) (h : History) (turn : Turn) : Type 0 where
  pub why : StoreRefused
  pub is : Why why
  pub text : turn.text ≡ refused_text why
  pub same : turn.history ≡ h

-- ---- on a history that has so many records at most

module _ (limit : ℕ) where
  -- a call by a number is refused for this reason after so many updates, as one of this mode: no program and no place has the number (S1), the
  -- argument has another length (S2), it has its length and the program has the other mode (S3), or nothing else refuses an update and the history
  -- has all its own (S4)
  abbrev pub IsWhy : CatalogueView → ℕ → Mode → TheCall → StoreRefused → Type 0
  IsWhy c updates mode call UnknownProgram = length c.programs + c.places ≤ call.program
  IsWhy c updates mode call ArgumentLength = HasOtherLength c call
  IsWhy c updates mode call WrongMode = (p : Checked) × (program_at c call.program ≡ Some p) × (length call.argument ≡ p.arg_len) × (p.mode ≢ mode)
  IsWhy c updates mode call Ended = (mode ≡ Update) × IsOperation Update c (Run call) × (limit ≤ updates)
  IsWhy c updates mode call why = ⊥

  -- a call by a name: no program has the name, or the program that has it is refused so as one of its own mode
  abbrev pub IsWhyNamed : CatalogueView → ℕ → ProgramCall → StoreRefused → Type 0
  IsWhyNamed c updates call why =
      ((number_named c.programs call.name ≡ None) × (why ≡ UnknownProgram))
      ⊎ ((k : ℕ) × (p : Checked) × (number_named c.programs call.name ≡ Some k) × (program_at c k ≡ Some p)
      × IsWhy c updates p.mode (record { program = k; argument = call.argument }) why)

  -- an install: by its bytes and the length of its argument, S6, S7 or S8, or where nothing else refuses it S4
  abbrev pub IsWhyInstall : CatalogueView → ℕ → NewProgram → StoreRefused → Type 0
  IsWhyInstall c updates new Ended = IsOperation Update c (AnInstall new) × (limit ≤ updates)
  IsWhyInstall c updates new why = install_refusal c.shapes c.long new ≡ Some why

  -- for such a reason a line that says this is refused: a call by the name or by the number of its program, or an install
  abbrev pub IsWhySaid : CatalogueView → ℕ → Meaning → StoreRefused → Type 0
  IsWhySaid c updates Comment why = ⊥
  IsWhySaid c updates (Call call) why = IsWhyNamed c updates call why
  IsWhySaid c updates (InvokeAt call) why = IsWhy c updates Update call why
  IsWhySaid c updates (ReadAt call) why = IsWhy c updates Read call why
  IsWhySaid c updates (Install new) why = IsWhyInstall c updates new why

  -- an update wrote its index in the history and what it does; the history goes on with it, and with the maps that it leaves
  pub record IsUpdateTurn (c : CatalogueView) (h : History) (call : TheCall) (turn : Turn) : Type 0 where
    pub asked : IsOperation Update c (Run call)
    pub done : RunEffect
    pub does : CallDoes c h call Update done
    pub room : length h < limit
    pub text : turn.text ≡ update_text (length h) done.reply done.steps
    pub next : turn.history ≡ with_operation h (Run call)
    pub left : (state_of c turn.history).maps ≡ done.maps

  -- an install wrote its index in the history and the number of its program, which stands behind the others then; or that no place is free
  pub record IsInstallTurn (c : CatalogueView) (h : History) (new : NewProgram) (turn : Turn) : Type 0 where
    pub asked : IsOperation Update c (AnInstall new)
    pub program : Checked
    pub read : installed_program c.shapes new.mode new.arg_len new.bytes ≡ Ok program
    pub room : length h < limit
    pub text : turn.text ≡ install_text (length h) (placed c (state_of c h) program).reply
    pub next : turn.history ≡ with_operation h (AnInstall new)
    pub left : state_of c turn.history ≡ (placed c (state_of c h) program).left

  -- a call by its name is refused, or it is an update or a read that runs the program of that name
  abbrev pub CallTurn : CatalogueView → History → ProgramCall → Turn → Type 0
  CallTurn c h call turn =
      IsRefusedTurn (IsWhyNamed c (length h) call) h turn
      ⊎ ((k : ℕ) × (number_named c.programs call.name ≡ Some k)
      × (((u : IsUpdateTurn c h (record { program = k; argument = call.argument }) turn) × CallRuns c h (record { program = k; argument = call.argument }) Update u.done)
      ⊎ ((r : IsReadTurn c h (record { program = k; argument = call.argument }) turn) × CallRuns c h (record { program = k; argument = call.argument }) Read r.done)))

  -- by what the line says: a comment writes nothing
  abbrev pub MeaningTurn : CatalogueView → History → Turn → Meaning → Type 0
  MeaningTurn c h turn Comment = (turn.text ≡ []) × (turn.history ≡ h)
  MeaningTurn c h turn (Call call) = CallTurn c h call turn
  MeaningTurn c h turn (InvokeAt call) = IsRefusedTurn (IsWhy c (length h) Update call) h turn ⊎ IsUpdateTurn c h call turn
  MeaningTurn c h turn (ReadAt call) = IsRefusedTurn (IsWhy c (length h) Read call) h turn ⊎ IsReadTurn c h call turn
  MeaningTurn c h turn (Install new) = IsRefusedTurn (IsWhyInstall c (length h) new) h turn ⊎ IsInstallTurn c h new turn

  abbrev pub LineTurn : CatalogueView → History → List ℕ → Turn → Type 0
  LineTurn c h line turn = (m : Meaning) × (line_meaning line ≡ Some m) × MeaningTurn c h turn m

  -- from line n on, on this history: each line has its turn, one after the other, until a bad line
  abbrev pub ScriptRuns : CatalogueView → ℕ → History → List (List ℕ) → Answer → Type 0
  ScriptRuns c n h [] a = a ≡ record { text = []; verdict = verdicts.Good }
  ScriptRuns c n h (l ∷ ls) a =
      ((line_meaning l ≡ None) × (a ≡ bad_line n))
      ⊎ ((turn : Turn) × (rest : Answer) × LineTurn c h l turn × ScriptRuns c (next_line n) turn.history ls rest × (a ≡ behind turn.text rest))

-- ---- the laws

-- on any history of a catalogue's updates the turn of a line does what the line says, and leaves such a history
abbrev pub LineTurnsAreRuns : Type 0
LineTurnsAreRuns =
    (limit : ℕ) (c : CatalogueView) (h : History) (line : List ℕ) (turn : Turn) → IsCatalogue c → AreUpdates c h → line_turn limit c h line ≡ Some turn
    → LineTurn limit c h line turn × AreUpdates c turn.history

-- and what lines write from there on are the runs of its programs and of those that are installed, from the state on that a store of it opens on
abbrev pub RunLinesAreRuns : Type 0
RunLinesAreRuns =
    (limit : ℕ) (c : CatalogueView) (n : ℕ) (h : History) (ls : List (List ℕ)) → IsCatalogue c → AreUpdates c h
    → ScriptRuns limit c n h ls (lines_answer limit c n h ls)

-- what a manifest is loaded as, by any limits, is a catalogue, with any number of places that a command gives it
abbrev pub LoadedIsCatalogue : Type 0
LoadedIsCatalogue =
    (l : MapLimits) (manifest : List ℕ) (files : Files) (c : CatalogueView) (places : ℕ) → AreLimits l → loaded_within l manifest files ≡ Ok c → places ≤ MOST_SPARE
    → IsCatalogue (with_places c places)

-- and it is one where it opens on the state that a text says
abbrev pub OpenedIsCatalogue : Type 0
OpenedIsCatalogue = (c on : CatalogueView) (state : List ℕ) → IsCatalogue c → on_text c state ≡ Ok on → IsCatalogue on

-- How the lines of scripts, of lists of steps, and of transcripts are spelled.
use Rattle.std.specs.Prelude.{◌≡◌, ◌⊎◌, ◌↔◌, ℕ, ◌<◌, ◌≤◌, ◌^◌, true, List, [], ◌∷◌, ◌++◌, length, codes, decimal, Some}
use Rattle.verifier.specs.declared.refusal.Mode.{Mode}
use Rattle.verifier.specs.declared.refusal.Mode.TheVariants.{Update, Read}
use Rattle.text.specs.declared.lines.TheConstants.{LINE_BYTES}
use Rattle.text.specs.Digits.{field_bytes}
use Rattle.text.specs.Words.{is_name}
use Rattle.loader.specs.Spelling.{mode_word}
use Rattle.oplog.specs.Calls.{Call as NumberedCall, NewProgram}
use Rattle.scripts.specs.Script.{ProgramKey, Named, Numbered, KeyedCall, Meaning, Comment, Call, InvokeAt, ReadAt, Install, line_meaning}
use Rattle.scripts.specs.StepLine as steps
use Rattle.scripts.specs.StepLine.{StepMeaning, is_named_so, step_line_meaning}
use Rattle.scripts.specs.declared.step_lines.SlotAt.{SlotAt}
use Rattle.scripts.specs.Transcript as transcripts
use Rattle.scripts.specs.Transcript.{TranscriptMeaning, transcript_line_meaning}

-- ---- fields

-- fields, with a space between each two
abbrev pub spaced : List (List ℕ) → List ℕ
spaced [] = []
spaced (field ∷ []) = field
spaced (field ∷ next ∷ fields) = field ++ 32 ∷ spaced (next ∷ fields)

-- a number that a field can say
abbrev pub IsNumber : ℕ → Type 0
IsNumber n = n < 2 ^ 64

-- HEX spells these bytes
abbrev pub SpellsBytes : List ℕ → List ℕ → Type 0
SpellsBytes bytes digits = field_bytes digits ≡ Some bytes

-- NAME, or K
abbrev pub key_text : ProgramKey → List ℕ
key_text (Named name) = name
key_text (Numbered k) = decimal k

abbrev pub IsKey : ProgramKey → Type 0
IsKey (Named name) = is_name name ≡ true
IsKey (Numbered k) = IsNumber k

-- a line that says nothing: it is empty, or begins with #
abbrev pub SaysNothing : List ℕ → Type 0
SaysNothing line = (line ≡ []) ⊎ ((rest : List ℕ) × (line ≡ 35 ∷ rest))

-- behind these fields stand NAME or K, and HEX, and then these
abbrev pub SpellsKeyed : List (List ℕ) → KeyedCall → List (List ℕ) → List ℕ → Type 0
SpellsKeyed before call behind line =
    (digits : List ℕ) × (line ≡ spaced (before ++ key_text call.key ∷ digits ∷ behind)) × IsKey call.key × SpellsBytes call.argument digits

-- behind these fields stand MODE, ARGLEN and HEX, and then these
abbrev pub SpellsProgram : List (List ℕ) → NewProgram → List (List ℕ) → List ℕ → Type 0
SpellsProgram before new behind line =
    (digits : List ℕ) × (line ≡ spaced (before ++ mode_word new.mode ∷ decimal new.arg_len ∷ digits ∷ behind)) × IsNumber new.arg_len × SpellsBytes new.bytes digits

-- ---- scripts

-- WORD K HEX
abbrev pub SpellsNumbered : List ℕ → NumberedCall → List ℕ → Type 0
SpellsNumbered word call line =
    (digits : List ℕ) × (line ≡ spaced (word ∷ decimal call.program ∷ digits ∷ [])) × IsNumber call.program × SpellsBytes call.argument digits

-- the line of a script spells this
abbrev pub Spells : Meaning → List ℕ → Type 0
Spells Comment line = SaysNothing line
Spells (Call call) line = (digits : List ℕ) × (line ≡ spaced (call.name ∷ digits ∷ [])) × (is_name call.name ≡ true) × SpellsBytes call.argument digits
Spells (InvokeAt call) line = SpellsNumbered (codes "invoke") call line
Spells (ReadAt call) line = SpellsNumbered (codes "read") call line
Spells (Install new) line = SpellsProgram (codes "install" ∷ []) new [] line

-- a line of a script says this exactly where it is spelled so, in at most 512 bytes
abbrev pub EachLineIsItsSpelling : Type 0
EachLineIsItsSpelling = (line : List ℕ) (said : Meaning) → (line_meaning line ≡ Some said) ↔ ((length line ≤ LINE_BYTES) × Spells said line)

-- ---- steps

-- WORD N S NAME HEX, or with a K that none of the n programs with names has
abbrev pub SpellsCallAt : ℕ → List ℕ → SlotAt → KeyedCall → List ℕ → Type 0
SpellsCallAt n word at call line =
    SpellsKeyed (word ∷ decimal at.node ∷ decimal at.slot ∷ []) call [] line × IsNumber at.node × IsNumber at.slot × (is_named_so n call.key ≡ true)

-- WORD N S
abbrev pub SpellsSlotAt : List ℕ → SlotAt → List ℕ → Type 0
SpellsSlotAt word at line = (line ≡ spaced (word ∷ decimal at.node ∷ decimal at.slot ∷ [])) × IsNumber at.node × IsNumber at.slot

-- WORD N
abbrev pub SpellsNode : List ℕ → ℕ → List ℕ → Type 0
SpellsNode word node line = (line ≡ spaced (word ∷ decimal node ∷ [])) × IsNumber node

-- the line of a list of steps spells this, where n programs have names
abbrev pub SpellsStep : ℕ → StepMeaning → List ℕ → Type 0
SpellsStep n steps.Comment line = SaysNothing line
SpellsStep n (steps.Post at call) line = SpellsCallAt n (codes "post") at call line
SpellsStep n (steps.Install at new) line = SpellsProgram (codes "install" ∷ decimal at.node ∷ decimal at.slot ∷ []) new [] line × IsNumber at.node × IsNumber at.slot
SpellsStep n (steps.ReadBegin at call) line = SpellsCallAt n (codes "readbegin") at call line
SpellsStep n (steps.Collect at) line = SpellsSlotAt (codes "collect") at line
SpellsStep n (steps.ReadAnswer at) line = SpellsSlotAt (codes "readanswer") at line
SpellsStep n (steps.Claim node) line = SpellsNode (codes "claim") node line
SpellsStep n (steps.Append node) line = SpellsNode (codes "append") node line
SpellsStep n (steps.Replay node) line = SpellsNode (codes "replay") node line
SpellsStep n (steps.Finish node) line = SpellsNode (codes "finish") node line
SpellsStep n (steps.Reply node) line = SpellsNode (codes "reply") node line
SpellsStep n (steps.Reclaim node) line = SpellsNode (codes "reclaim") node line
SpellsStep n (steps.Rebase node) line = SpellsNode (codes "rebase") node line

-- a line of a list of steps says this exactly where it is spelled so
abbrev pub EachStepIsItsSpelling : Type 0
EachStepIsItsSpelling =
    (n : ℕ) (line : List ℕ) (said : StepMeaning) → (step_line_meaning n line ≡ Some said) ↔ ((length line ≤ LINE_BYTES) × SpellsStep n said line)

-- ---- transcripts

-- u, or r
abbrev pub mode_letter : Mode → List ℕ
mode_letter Update = codes "u"
mode_letter Read = codes "r"

-- the line of a transcript spells this
abbrev pub SpellsTold : TranscriptMeaning → List ℕ → Type 0
SpellsTold transcripts.Comment line = SaysNothing line
SpellsTold (transcripts.Answered mode call told) line =
    SpellsKeyed (mode_letter mode ∷ decimal told.index ∷ []) call (decimal told.reply ∷ []) line × IsNumber told.index × IsNumber told.reply
SpellsTold (transcripts.Installed new told) line =
    SpellsProgram (codes "i" ∷ decimal told.index ∷ []) new (decimal told.reply ∷ []) line × IsNumber told.index × IsNumber told.reply
SpellsTold (transcripts.Ended call) line = SpellsKeyed (codes "e" ∷ []) call [] line
SpellsTold (transcripts.EndedInstall new) line = SpellsProgram (codes "e" ∷ []) new [] line

-- a line of a transcript says this exactly where it is spelled so
abbrev pub EachToldIsItsSpelling : Type 0
EachToldIsItsSpelling =
    (line : List ℕ) (said : TranscriptMeaning) → (transcript_line_meaning line ≡ Some said) ↔ ((length line ≤ LINE_BYTES) × SpellsTold said line)

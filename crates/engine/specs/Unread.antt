-- What the steps of reading give. Clauses of private functions alone cite this.
use Rattle.std.specs.Prelude.{◌≡◌, ℕ, not, true, false, List, Option, Some, None, Result, Ok, Err, MatchResult, Vec, String, string_bytes}
use Rattle.std.specs.List.{find}
use Rattle.std.specs.Str.{is_utf8}
use Rattle.loader.specs.ProgramFiles.{Files}
use Rattle.engine.specs.declared.reading.NamedText.{NamedText}
use Rattle.engine.specs.declared.reading.Stranger.{Stranger}
use Rattle.engine.specs.declared.reading.Texts.{Texts}
use Rattle.engine.specs.declared.reading.Unread.{Unread}
use Rattle.engine.specs.declared.reading.Unread.TheVariants as faults
use Rattle.engine.specs.Files.{Contents, present}
use Rattle.engine.specs.Reading.{Given, first_stranger, named_texts, read, strange_text, texts_read}

-- the first of these that is not UTF-8
abbrev pub first_strange : Files → Option (List ℕ × List ℕ)
first_strange texts = find (λ text. not (is_utf8 text.1)) texts

-- what a fault says of what was read, if it comes of that
abbrev pub FailsAs : Unread → (Stranger → Type 0) → Type 0
FailsAs faults.NoMemory P = Unit {0}
FailsAs faults.CannotRead P = Unit {0}
FailsAs (faults.NotText s) P = P s

-- P is so if the answer says that a read failed
abbrev pub IfUnread : {X : Type 0} → Result X Unread → Type 0 → Type 0
IfUnread (Ok x) P = Unit {0}
IfUnread (Err faults.NoMemory) P = Unit {0}
IfUnread (Err (faults.NotText s)) P = Unit {0}
IfUnread (Err faults.CannotRead) P = P

-- these bytes are no text, and they are given back behind what they go by
abbrev pub IsStrange : List ℕ → List ℕ → Stranger → Type 0
IsStrange name bytes s = (is_utf8 bytes ≡ false) × (strange_text s ≡ (name, bytes))

-- the text is these bytes, or they are no text
abbrev pub TextIs : {Y : Type 0} → List ℕ → Result (String Y) Unread → List ℕ → Type 0
TextIs name r bytes = MatchResult r (λ s. (string_bytes s ≡ bytes) × (is_utf8 bytes ≡ true)) (λ e. FailsAs e (IsStrange name bytes))

-- what was found of a file, and that it is text
abbrev pub FoundAs : {Y : Type 0} → Option (String Y) → Option (List ℕ) → Type 0
FoundAs None found = found ≡ None
FoundAs (Some s) found = (found ≡ Some (string_bytes s)) × (is_utf8 (string_bytes s) ≡ true)

-- a file that is there is no text
abbrev pub IsStrangeFile : List ℕ → Option (List ℕ) → Stranger → Type 0
IsStrangeFile name found s = (bytes : List ℕ) × (found ≡ Some bytes) × IsStrange name bytes s

-- all files that are there, or the first of them that is no text
abbrev pub Gathered : {X : Type 0} → Contents → List (List ℕ) → Result (Vec NamedText X) Unread → Type 0
Gathered h names r =
    MatchResult r (λ v. (named_texts v.items ≡ present h names) × (first_strange (present h names) ≡ None)) (λ e. FailsAs e (λ s. first_strange (present h names) ≡ Some (strange_text s)))

-- all texts, or the first of them that is none
abbrev pub AreRead : Result Texts Unread → Given → Type 0
AreRead r g = MatchResult r (λ t. read g ≡ Some (texts_read t)) (λ e. FailsAs e (λ s. first_stranger g ≡ Some (strange_text s)))

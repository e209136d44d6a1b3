-- What a command reads, and what it has read then.
use Rattle.std.specs.Prelude.{◌≡◌, ◌⊎◌, ℕ, not, ◌&&◌, true, List, [], ◌∷◌, ◌++◌, map, codes, Option, Some, None, is_some, option_map, Result, Ok, Err, IfSome, IsSomeAnd, string_bytes, if◌then◌else◌}
use Rattle.std.specs.Str.{is_utf8}
use Rattle.std.specs.List.{find}
use Rattle.maps.specs.declared.shapes.MapLimits.{MapLimits}
use Rattle.maps.specs.Shapes.{standard, widest}
use Rattle.engine.specs.declared.reading.TheConstants.{LINE_ARG_LEN}
use Rattle.loader.specs.declared.installed.TheConstants.{MOST_LONG}
use Rattle.loader.specs.Loading.{Outcome, loaded_within}
use Rattle.loader.specs.NamedFiles.{named_in}
use Rattle.loader.specs.ProgramFiles.{Files}
use Rattle.engine.specs.declared.reading.Inputs.{Inputs}
use Rattle.engine.specs.declared.reading.MapSizes.{MapSizes}
use Rattle.engine.specs.declared.reading.MapSizes.TheVariants.{Standard, Large}
use Rattle.engine.specs.declared.reading.NamedText.{NamedText}
use Rattle.engine.specs.declared.reading.Texts.{Texts}
use Rattle.engine.specs.declared.reading.Stranger.{Stranger}
use Rattle.engine.specs.Files.{Contents, present}

-- ---- what there is to read

-- the bytes that there are to read, and how large the maps may be
pub record Given : Type 0 where
  pub sizes : MapSizes
  pub manifest : List ℕ
  pub folder : Contents
  pub file : List ℕ
  pub state : List ℕ
  pub history : List ℕ

-- the bytes of a text; one that is absent is empty
abbrev pub given_text : {R : Type 0} → (R → Option (List ℕ)) → Option R → Option (List ℕ)
given_text remaining None = Some []
given_text remaining (Some r) = remaining r

-- where they are known of all, this is so of them
abbrev pub IfGiven : {F R : Type 0} → (F → Option Contents) → (R → Option (List ℕ)) → Inputs F R → (Given → Type 0) → Type 0
IfGiven holds remaining i P =
    IfSome (given_text remaining i.manifest) (λ m. IfSome (holds i.folder.now) (λ h. IfSome (given_text remaining i.file) (λ f.
    IfSome (given_text remaining i.state) (λ s. IfSome (given_text remaining i.history) (λ t.
    P (record { sizes = i.sizes; manifest = m; folder = h; file = f; state = s; history = t }))))))

-- of the files those are read that the manifest names and that are there
abbrev pub files_in : Given → Files
files_in g = present g.folder (named_in g.manifest)

-- ---- the order of reading

-- of all texts, each behind what it goes by, the first in the order of reading that is not UTF-8
abbrev pub first_stranger : Given → Option (List ℕ × List ℕ)
first_stranger g =
    find (λ text. not (is_utf8 text.1))
    ((codes "the manifest", g.manifest) ∷ (files_in g ++ ((codes "the file", g.file) ∷ (codes "the state", g.state) ∷ (codes "the history", g.history) ∷ [])))

-- the manifest, if what is not UTF-8 first is a file that it names: it is UTF-8 itself, and one of those files is not
abbrev pub naming : Given → Option (List ℕ)
naming g = if is_utf8 g.manifest && is_some (find (λ text. not (is_utf8 text.1)) (files_in g)) then Some g.manifest else None

-- ---- what was read

-- texts as they were read, and how large the maps may be
pub record TextsRead : Type 0 where
  pub sizes : MapSizes
  pub manifest : List ℕ
  pub files : Files
  pub file : List ℕ
  pub state : List ℕ
  pub history : List ℕ

-- what is read; none where one of them is not UTF-8
abbrev pub read : Given → Option TextsRead
read g =
    if is_some (first_stranger g) then None
    else Some (record { sizes = g.sizes; manifest = g.manifest; files = files_in g; file = g.file; state = g.state; history = g.history })

-- the limits of the maps and the arguments that a manifest names: a line has room for so many bytes of an argument
abbrev pub limits_of : MapSizes → MapLimits
limits_of Standard = standard
limits_of Large = record widest { argument = LINE_ARG_LEN }

-- the most bytes of a program that is installed, and of its argument, if that is more than 192 and 64: none, or as many as a store may take
abbrev pub long_of : MapSizes → ℕ
long_of Standard = 0
long_of Large = MOST_LONG

-- the catalogue that the manifest and its files say
abbrev pub loaded_by : TextsRead → Outcome
loaded_by t = loaded_within (limits_of t.sizes) t.manifest t.files

-- ---- what was read, by code

-- the files, by what their names and texts are
abbrev pub named_texts : List NamedText → Files
named_texts fs = map (λ f. (string_bytes f.name, string_bytes f.text)) fs

abbrev pub texts_read : Texts → TextsRead
texts_read t = record { sizes = t.sizes; manifest = string_bytes t.manifest; files = named_texts t.files.items; file = string_bytes t.file; state = string_bytes t.state; history = string_bytes t.history }

-- the texts, if all of them are
abbrev pub texts_in : Result Texts Stranger → Option TextsRead
texts_in (Ok t) = Some (texts_read t)
texts_in (Err s) = None

-- what is not UTF-8, behind what it goes by
abbrev pub strange_text : Stranger → List ℕ × List ℕ
strange_text s = (string_bytes s.name, s.bytes.items)

-- the manifest that names it, if one does
abbrev pub naming_text : Stranger → Option (List ℕ)
naming_text s = option_map string_bytes s.manifest

-- it goes by this name, and is no file that a manifest names
abbrev pub GoesBy : List ℕ → Stranger → Type 0
GoesBy name s = (string_bytes s.name ≡ name) × (naming_text s ≡ None)

-- the readers of the history, the state and the file are as they were, but for that of this text and of those before it
abbrev pub NothingAfter : {F R : Type 0} → Inputs F R → Inputs F R → Stranger → Type 0
NothingAfter old new s =
    GoesBy (codes "the history") s
    ⊎ ((new.history ≡ old.history) × (GoesBy (codes "the state") s ⊎ ((new.state ≡ old.state) × (GoesBy (codes "the file") s ⊎ (new.file ≡ old.file)))))

-- these texts are UTF-8
abbrev pub AreText : Files → Type 0
AreText texts = find (λ text. not (is_utf8 text.1)) texts ≡ None

-- what is read before the file, before the state, and before the history
abbrev pub before_file : Given → Files
before_file g = (codes "the manifest", g.manifest) ∷ files_in g

abbrev pub before_state : Given → Files
before_state g = before_file g ++ (codes "the file", g.file) ∷ []

abbrev pub before_history : Given → Files
before_history g = before_state g ++ (codes "the state", g.state) ∷ []

-- a text is read only if all texts before it are UTF-8: otherwise its reader is as it was
abbrev pub StopsAtStranger : {F R : Type 0} → Inputs F R → Inputs F R → Given → Type 0
StopsAtStranger old new g =
    (AreText (before_file g) ⊎ (new.file ≡ old.file)) × (AreText (before_state g) ⊎ (new.state ≡ old.state)) × (AreText (before_history g) ⊎ (new.history ≡ old.history))

-- ---- which read failed

-- what is known of these bytes is UTF-8
abbrev pub IsText : Option (List ℕ) → Type 0
IsText bytes = IfSome bytes (λ b. is_utf8 b ≡ true)

-- the read of this text failed; or it is UTF-8, and the same is so of a text after it
abbrev pub FailedOr : {R : Type 0} → (R → Option (List ℕ)) → (R → Type 0) → Option R → Option R → Type 0 → Type 0
FailedOr remaining has_failed old new After = IsSomeAnd new has_failed ⊎ (IsText (given_text remaining old) × After)

-- the read of one of these files failed, and those before it are UTF-8; or all are, and the same is so of a text after them
abbrev pub FileFailedOr : (List ℕ → Type 0) → Option Contents → List (List ℕ) → Type 0 → Type 0
FileFailedOr can_fail folder [] After = After
FileFailedOr can_fail folder (name ∷ names) After = can_fail name ⊎ (IfSome folder (λ h. IsText (h name)) × FileFailedOr can_fail folder names After)

-- a read failed, and all texts before it in the order of reading are UTF-8
abbrev pub FailedInTurn : {F R : Type 0} → (F → Option Contents) → (F → List ℕ → Type 0) → (R → Option (List ℕ)) → (R → Type 0) → Inputs F R → Inputs F R → Type 0
FailedInTurn holds can_fail remaining has_failed old new =
    FailedOr remaining has_failed old.manifest new.manifest
    ((names : List (List ℕ)) × IfSome (given_text remaining old.manifest) (λ m. names ≡ named_in m)
    × FileFailedOr (can_fail old.folder.now) (holds old.folder.now) names
    (FailedOr remaining has_failed old.file new.file (FailedOr remaining has_failed old.state new.state (IsSomeAnd new.history has_failed))))

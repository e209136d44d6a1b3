-- The read that failed, one text after another.
use Rattle.std.proofs.Common.{◌≡◌, inl, inr, ℕ, Bool, true, false, List, [], ◌∷◌, Option, Some, None, Ok, Err, String, codes, string_bytes, refl, ap}
use Rattle.std.specs.Prelude.{IfSome, IsSomeAnd}
use Rattle.std.specs.Str.{is_utf8}
use Rattle.loader.specs.NamedFiles.{named_in}
use Rattle.loader.specs.ProgramFiles.{Files}
use Rattle.engine.specs.declared.reading.Inputs.{Inputs}
use Rattle.engine.specs.declared.reading.Unread.{Unread}
use Rattle.engine.specs.declared.reading.Unread.TheVariants as faults
use Rattle.engine.specs.Files.{Contents, present}
use Rattle.engine.specs.Reading.{FailedInTurn, FailedOr, FileFailedOr, IsText, given_text}
use Rattle.engine.specs.Unread.{IfUnread, TextIs, first_strange}

pub unread_so : (e : Unread) (P Q : Type 0) → (P → Q) → IfUnread {X = ⊥} (Err e) P → IfUnread {X = ⊥} (Err e) Q
unread_so faults.NoMemory P Q f p = tt
unread_so (faults.NotText s) P Q f p = tt
unread_so faults.CannotRead P Q f p = f p

-- ---- files

some_not_none : (text : List ℕ × List ℕ) → Some text ≡ None → ⊥
some_not_none text never = cc

-- a first file that is text, and the others
text_here : (h : Contents) (name : List ℕ) (names : List (List ℕ)) → first_strange (present h (name ∷ names)) ≡ None → IsText (h name) × (first_strange (present h names) ≡ None)
text_here h name names none = by_name (h name) refl
  where
    by_text : (bytes : List ℕ) (b : Bool) → h name ≡ Some bytes → is_utf8 bytes ≡ b → IsText (h name) × (first_strange (present h names) ≡ None)
    by_text bytes true found text = (rw found text, rw (found, text) at none)
    by_text bytes false found text = absurd (some_not_none (name, bytes) (rw (found, text) at none))

    by_name : (found : Option (List ℕ)) → h name ≡ found → IsText (h name) × (first_strange (present h names) ≡ None)
    by_name None found = (rw found tt, rw found at none)
    by_name (Some bytes) found = by_text bytes (is_utf8 bytes) found refl

module _ (can_fail : List ℕ → Type 0) (After : Type 0) where
  -- all files are texts
  files_past : (o : Option Contents) (names : List (List ℕ)) → IfSome o (λ h. first_strange (present h names) ≡ None) → After → FileFailedOr can_fail o names After
  files_past o [] none after = after
  files_past None (name ∷ names) none after = inr (tt, files_past None names tt after)
  files_past (Some h) (name ∷ names) none after =
      let here = text_here h name names none in
      inr (here.0, files_past (Some h) names here.1 after)

  -- one of them failed
  files_or : (o : Option Contents) (names : List (List ℕ)) → FileFailedOr can_fail o names ⊥ → FileFailedOr can_fail o names After
  files_or o [] never = absurd never
  files_or o (name ∷ names) (inl failed) = inl failed
  files_or o (name ∷ names) (inr (text, rest)) = inr (text, files_or o names rest)

-- from the files that are left to all
module _ (can_fail : List ℕ → Type 0) (o : Option Contents) where
  abbrev pub Fails : List (List ℕ) → Type 0
  Fails names = FileFailedOr can_fail o names ⊥

-- ---- all texts

-- what is known of a text that was read
text_known : {Y : Type 0} (name : List ℕ) (o : Option (List ℕ)) (s : String Y) → IfSome o (TextIs name (Ok s)) → IsText o
text_known name None s is = tt
text_known name (Some b) s is = is.1

names_known : {Y : Type 0} (name : List ℕ) (o : Option (List ℕ)) (s : String Y) → IfSome o (TextIs name (Ok s)) → IfSome o (λ m. named_in (string_bytes s) ≡ named_in m)
names_known name None s is = tt
names_known name (Some b) s is = ap named_in is.0

texts_known : (names : List (List ℕ)) (o : Option Contents) (files : Files) → IfSome o (λ h. (files ≡ present h names) × (first_strange (present h names) ≡ None)) → IfSome o (λ h. first_strange (present h names) ≡ None)
texts_known names None files are = tt
texts_known names (Some h) files are = are.1

module _ {F R : Type 0} (holds : F → Option Contents) (can_fail : F → List ℕ → Type 0) (remaining : R → Option (List ℕ)) (has_failed : R → Type 0) (old new : Inputs F R) where
  abbrev InTurn : Type 0
  InTurn = FailedInTurn holds can_fail remaining has_failed old new

  module _ {Y : Type 0} (manifest : String Y) (is_manifest : IfSome (given_text remaining old.manifest) (TextIs (codes "the manifest") (Ok manifest))) where
    abbrev names : List (List ℕ)
    names = named_in (string_bytes manifest)

    abbrev AfterFiles : Type 0
    AfterFiles = FailedOr remaining has_failed old.file new.file (FailedOr remaining has_failed old.state new.state (IsSomeAnd new.history has_failed))

    past_manifest : FileFailedOr (can_fail old.folder.now) (holds old.folder.now) names AfterFiles → InTurn
    past_manifest p = inr (text_known (codes "the manifest") (given_text remaining old.manifest) manifest is_manifest, (names, names_known (codes "the manifest") (given_text remaining old.manifest) manifest is_manifest, p))

    pub files_in_turn : (e : Unread) → IfUnread {X = ⊥} (Err e) (FileFailedOr (can_fail old.folder.now) (holds old.folder.now) names ⊥) → IfUnread {X = ⊥} (Err e) InTurn
    files_in_turn e failed =
        unread_so e (FileFailedOr (can_fail old.folder.now) (holds old.folder.now) names ⊥) InTurn (λ p. past_manifest (files_or (can_fail old.folder.now) AfterFiles (holds old.folder.now) names p)) failed

    module _ (files : Files) (there : IfSome (holds old.folder.now) (λ h. (files ≡ present h names) × (first_strange (present h names) ≡ None))) where
      past_files : AfterFiles → InTurn
      past_files p = past_manifest (files_past (can_fail old.folder.now) AfterFiles (holds old.folder.now) names (texts_known names (holds old.folder.now) files there) p)

      pub file_in_turn : (e : Unread) → IfUnread {X = ⊥} (Err e) (IsSomeAnd new.file has_failed) → IfUnread {X = ⊥} (Err e) InTurn
      file_in_turn e failed = unread_so e (IsSomeAnd new.file has_failed) InTurn (λ p. past_files (inl p)) failed

      module _ {Z : Type 0} (file : String Z) (is_file : IfSome (given_text remaining old.file) (TextIs (codes "the file") (Ok file))) where
        past_file_text : FailedOr remaining has_failed old.state new.state (IsSomeAnd new.history has_failed) → InTurn
        past_file_text p = past_files (inr (text_known (codes "the file") (given_text remaining old.file) file is_file, p))

        pub state_in_turn : (e : Unread) → IfUnread {X = ⊥} (Err e) (IsSomeAnd new.state has_failed) → IfUnread {X = ⊥} (Err e) InTurn
        state_in_turn e failed = unread_so e (IsSomeAnd new.state has_failed) InTurn (λ p. past_file_text (inl p)) failed

        module _ {X : Type 0} (state : String X) (is_state : IfSome (given_text remaining old.state) (TextIs (codes "the state") (Ok state))) where
          pub history_in_turn : (e : Unread) → IfUnread {X = ⊥} (Err e) (IsSomeAnd new.history has_failed) → IfUnread {X = ⊥} (Err e) InTurn
          history_in_turn e failed =
              unread_so e (IsSomeAnd new.history has_failed) InTurn (λ p. past_file_text (inr (text_known (codes "the state") (given_text remaining old.state) state is_state, p))) failed

-- ---- where nothing can fail

none_of : {R : Type 0} (o : Option R) → IsSomeAnd o (λ _. ⊥) → ⊥
none_of None never = never
none_of (Some r) never = never

no_file : (o : Option Contents) (names : List (List ℕ)) (After : Type 0) → (After → ⊥) → FileFailedOr (λ _. ⊥) o names After → ⊥
no_file o [] After none failed = none failed
no_file o (name ∷ more) After none (inl never) = never
no_file o (name ∷ more) After none (inr (text, rest)) = no_file o more After none rest

-- of texts and files that cannot fail none has
pub never_failed : {F R : Type 0} (holds : F → Option Contents) (remaining : R → Option (List ℕ)) (old new : Inputs F R) → FailedInTurn holds (λ _ _. ⊥) remaining (λ _. ⊥) old new → ⊥
never_failed holds remaining old new (inl never) = none_of new.manifest never
never_failed holds remaining old new (inr (text, (all, are, files))) = no_file (holds old.folder.now) all _ (λ after. behind after) files
  where
    behind : FailedOr remaining (λ _. ⊥) old.file new.file (FailedOr remaining (λ _. ⊥) old.state new.state (IsSomeAnd new.history (λ _. ⊥))) → ⊥
    behind (inl never) = none_of new.file never
    behind (inr (file, inl never)) = none_of new.state never
    behind (inr (file, inr (state, never))) = none_of new.history never

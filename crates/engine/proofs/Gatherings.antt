-- All that was read, one after another.
use Rattle.std.proofs.Common.{◌≡◌, ℕ, true, List, [], ◌∷◌, Option, Some, None, Ok, string_bytes, refl, sym, ap, subst, ◌∙◌}
use Rattle.std.specs.Prelude.{IfSome, String, codes, Bool, not, is_some, if◌then◌else◌}
use Rattle.std.specs.Option.{option_or}
use Rattle.std.proofs.lemmas.List.Folds.{find-append}
use Rattle.loader.specs.NamedFiles.{named_in}
use Rattle.loader.specs.ProgramFiles.{Files}
use Rattle.engine.specs.declared.reading.Inputs.{Inputs}
use Rattle.engine.specs.declared.reading.MapSizes.{MapSizes}
use Rattle.engine.specs.declared.reading.Stranger.{Stranger}
use Rattle.engine.specs.declared.reading.Texts.{Texts}
use Rattle.engine.specs.declared.reading.Unread.{Unread}
use Rattle.engine.specs.declared.reading.Unread.TheVariants as faults
use Rattle.std.specs.Str.{is_utf8}
use Rattle.engine.specs.Files.{Contents, present}
use Rattle.engine.specs.Reading.{Given, IfGiven, TextsRead, files_in, first_stranger, given_text, named_texts, read, strange_text, texts_read}
use Rattle.engine.specs.Unread.{FailsAs, IsStrange, TextIs, first_strange}
use Rattle.engine.proofs.Known.{known_so, known_of}

abbrev pub is_strange : List ℕ × List ℕ → Bool
is_strange text = not (is_utf8 text.1)

-- what `read` makes of all texts
abbrev pub found : Given → TextsRead
found g = record { sizes = g.sizes; manifest = g.manifest; files = files_in g; file = g.file; state = g.state; history = g.history }

abbrev pub unless_strange : Option (List ℕ × List ℕ) → TextsRead → Option TextsRead
unless_strange o t = if is_some o then None else Some t

pub fails_as : (e : Unread) (P Q : Stranger → Type 0) → ((s : Stranger) → P s → Q s) → FailsAs e P → FailsAs e Q
fails_as faults.NoMemory P Q f p = tt
fails_as faults.CannotRead P Q f p = tt
fails_as (faults.NotText s) P Q f p = f s p

abbrev given : MapSizes → List ℕ → Contents → List ℕ → List ℕ → List ℕ → Given
given z m h f s t = record { sizes = z; manifest = m; folder = h; file = f; state = s; history = t }

-- the texts behind the files
abbrev behind : List ℕ → List ℕ → List ℕ → Files
behind f s t = (codes "the file", f) ∷ (codes "the state", s) ∷ (codes "the history", t) ∷ []

-- behind a manifest that is text the files come, and then the others
past_manifest : (z : MapSizes) (m : List ℕ) (h : Contents) (f s t : List ℕ) → is_utf8 m ≡ true
    → first_stranger (given z m h f s t) ≡ option_or (first_strange (present h (named_in m))) (first_strange (behind f s t))
past_manifest z m h f s t text = rw text (find-append is_strange (present h (named_in m)) (behind f s t))

-- behind files that are texts the others come
past_files : (z : MapSizes) (m : List ℕ) (h : Contents) (f s t : List ℕ) → is_utf8 m ≡ true → first_strange (present h (named_in m)) ≡ None → first_stranger (given z m h f s t) ≡ first_strange (behind f s t)
past_files z m h f s t text texts = past_manifest z m h f s t text ∙ ap (λ o. option_or o (first_strange (behind f s t))) texts

module _ {F R : Type 0} (holds : F → Option Contents) (remaining : R → Option (List ℕ)) (i : Inputs F R) where
  abbrev om : Option (List ℕ)
  om = given_text remaining i.manifest

  abbrev oh : Option Contents
  oh = holds i.folder.now

  abbrev of : Option (List ℕ)
  of = given_text remaining i.file

  abbrev os : Option (List ℕ)
  os = given_text remaining i.state

  abbrev ot : Option (List ℕ)
  ot = given_text remaining i.history

  abbrev Stops : Unread → Type 0
  Stops e = IfGiven holds remaining i (λ g. FailsAs e (λ x. first_stranger g ≡ Some (strange_text x)))

  module _ {Y : Type 0} (text : String Y) (is : IfSome om (TextIs (codes "the manifest") (Ok text))) where
    abbrev names : List (List ℕ)
    names = named_in (string_bytes text)

    pub files_failed : (e : Unread) → IfSome oh (λ h. FailsAs e (λ x. first_strange (present h names) ≡ Some (strange_text x))) → Stops e
    files_failed e off =
        known_so (TextIs (codes "the manifest") (Ok text)) _ om (λ m k. known_so (λ h. FailsAs e (λ x. first_strange (present h names) ≡ Some (strange_text x))) _ oh (λ h no.
        known_of _ of (λ f. known_of _ os (λ s. known_of _ ot (λ t.
        fails_as e (λ x. first_strange (present h names) ≡ Some (strange_text x)) (λ x. first_stranger (given i.sizes m h f s t) ≡ Some (strange_text x))
        (λ x no. past_manifest i.sizes m h f s t k.1 ∙ ap (λ o. option_or o (first_strange (behind f s t))) (subst (λ n. first_strange (present h (named_in n)) ≡ Some (strange_text x)) k.0 no)) no)))) off) is

    module _ (files : Files) (there : IfSome oh (λ h. (files ≡ present h names) × (first_strange (present h names) ≡ None))) where
      abbrev Are : Contents → Type 0
      Are h = (files ≡ present h names) × (first_strange (present h names) ≡ None)

      at : (m : List ℕ) (h : Contents) → string_bytes text ≡ m → Are h → (files ≡ present h (named_in m)) × (first_strange (present h (named_in m)) ≡ None)
      at m h same are = subst (λ n. (files ≡ present h (named_in n)) × (first_strange (present h (named_in n)) ≡ None)) same are

      -- which is the first, where the manifest and the files are texts
      first : (m : List ℕ) (h : Contents) (f s t : List ℕ) → TextIs (codes "the manifest") (Ok text) m → Are h → first_stranger (given i.sizes m h f s t) ≡ first_strange (behind f s t)
      first m h f s t k l = past_files i.sizes m h f s t k.1 (at m h k.0 l).1

      pub file_failed : (e : Unread) → IfSome of (λ f. FailsAs e (IsStrange (codes "the file") f)) → Stops e
      file_failed e off =
          known_so (TextIs (codes "the manifest") (Ok text)) _ om (λ m k. known_so Are _ oh (λ h l. known_so (λ f. FailsAs e (IsStrange (codes "the file") f)) _ of (λ f no.
          known_of _ os (λ s. known_of _ ot (λ t.
          fails_as e (IsStrange (codes "the file") f) (λ x. first_stranger (given i.sizes m h f s t) ≡ Some (strange_text x)) (λ x no. first m h f s t k l ∙ rw no.0 (ap Some (sym no.1))) no))) off) there) is

      module _ {Z : Type 0} (file : String Z) (is_file : IfSome of (TextIs (codes "the file") (Ok file))) where
        pub state_failed : (e : Unread) → IfSome os (λ s. FailsAs e (IsStrange (codes "the state") s)) → Stops e
        state_failed e off =
            known_so (TextIs (codes "the manifest") (Ok text)) _ om (λ m k. known_so Are _ oh (λ h l. known_so (TextIs (codes "the file") (Ok file)) _ of (λ f kf.
            known_so (λ s. FailsAs e (IsStrange (codes "the state") s)) _ os (λ s no. known_of _ ot (λ t.
            fails_as e (IsStrange (codes "the state") s) (λ x. first_stranger (given i.sizes m h f s t) ≡ Some (strange_text x)) (λ x no. first m h f s t k l ∙ rw (kf.1, no.0) (ap Some (sym no.1))) no)) off) is_file) there) is

        module _ {X : Type 0} (state : String X) (is_state : IfSome os (TextIs (codes "the state") (Ok state))) where
          pub history_failed : (e : Unread) → IfSome ot (λ t. FailsAs e (IsStrange (codes "the history") t)) → Stops e
          history_failed e off =
              known_so (TextIs (codes "the manifest") (Ok text)) _ om (λ m k. known_so Are _ oh (λ h l. known_so (TextIs (codes "the file") (Ok file)) _ of (λ f kf.
              known_so (TextIs (codes "the state") (Ok state)) _ os (λ s ks. known_so (λ t. FailsAs e (IsStrange (codes "the history") t)) _ ot (λ t no.
              fails_as e (IsStrange (codes "the history") t) (λ x. first_stranger (given i.sizes m h f s t) ≡ Some (strange_text x)) (λ x no. first m h f s t k l ∙ rw (kf.1, ks.1, no.0) (ap Some (sym no.1))) no) off) is_state) is_file) there) is

  -- all are texts
  pub all_read : (r : Texts) → r.sizes ≡ i.sizes → IfSome om (TextIs (codes "the manifest") (Ok r.manifest))
      → IfSome oh (λ h. (named_texts r.files.items ≡ present h (named_in (string_bytes r.manifest))) × (first_strange (present h (named_in (string_bytes r.manifest))) ≡ None))
      → IfSome of (TextIs (codes "the file") (Ok r.file)) → IfSome os (TextIs (codes "the state") (Ok r.state)) → IfSome ot (TextIs (codes "the history") (Ok r.history))
      → IfGiven holds remaining i (λ g. read g ≡ Some (texts_read r))
  all_read r sizes is there is_file is_state is_history =
      known_so (TextIs (codes "the manifest") (Ok r.manifest)) _ om (λ m k.
      known_so (λ h. (named_texts r.files.items ≡ present h (named_in (string_bytes r.manifest))) × (first_strange (present h (named_in (string_bytes r.manifest))) ≡ None)) _ oh (λ h l.
      known_so (TextIs (codes "the file") (Ok r.file)) _ of (λ f kf. known_so (TextIs (codes "the state") (Ok r.state)) _ os (λ s ks. known_so (TextIs (codes "the history") (Ok r.history)) _ ot (λ t kt.
      let there = at r.manifest is (named_texts r.files.items) there m h k.0 l in
      let none : first_stranger (given i.sizes m h f s t) ≡ None = past_files i.sizes m h f s t k.1 there.1 ∙ rw (kf.1, ks.1, kt.1) refl in
      let same : found (given i.sizes m h f s t) ≡ texts_read r = rw (sizes, k.0, there.0, kf.0, ks.0, kt.0) refl in
      ap (λ o. unless_strange o (found (given i.sizes m h f s t))) none ∙ ap Some same) is_history) is_state) is_file) there) is

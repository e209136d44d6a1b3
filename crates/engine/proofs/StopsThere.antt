-- A text is read only if all texts before it are UTF-8.
use Rattle.std.proofs.Common.{◌≡◌, inl, inr, ℕ, true, List, [], ◌∷◌, ◌++◌, Option, Some, None, Ok, String, codes, string_bytes, refl, sym, ap, subst, ◌∙◌}
use Rattle.std.specs.Prelude.{IfSome, not}
use Rattle.std.specs.Option.{option_or}
use Rattle.std.specs.List.{find}
use Rattle.std.specs.Str.{is_utf8}
use Rattle.std.proofs.lemmas.List.Folds.{find-append}
use Rattle.loader.specs.NamedFiles.{named_in}
use Rattle.loader.specs.ProgramFiles.{Files}
use Rattle.engine.specs.declared.reading.Inputs.{Inputs}
use Rattle.engine.specs.Files.{Contents, present}
use Rattle.engine.specs.Reading.{AreText, Given, IfGiven, StopsAtStranger, before_file, before_history, before_state, given_text}
use Rattle.engine.specs.Unread.{TextIs, first_strange}
use Rattle.engine.proofs.Gatherings.{is_strange}
use Rattle.engine.proofs.Known.{known_of, known_so}

-- a text after others
one_more : (texts : Files) (name bytes : List ℕ) → AreText texts → is_utf8 bytes ≡ true → AreText (texts ++ (name, bytes) ∷ [])
one_more texts name bytes are is = find-append is_strange texts ((name, bytes) ∷ []) ∙ ap (λ o. option_or o (find is_strange ((name, bytes) ∷ []))) are ∙ rw is refl

module _ {F R : Type 0} (holds : F → Option Contents) (remaining : R → Option (List ℕ)) (i : Inputs F R) where
  abbrev given : List ℕ → Contents → List ℕ → List ℕ → List ℕ → Given
  given m h f s t = record { sizes = i.sizes; manifest = m; folder = h; file = f; state = s; history = t }

  -- nothing after the manifest and its files was read
  pub before_all : (manifest : Option R) → IfGiven holds remaining i (StopsAtStranger i (record i { manifest = manifest }))
  before_all manifest = known_of _ (given_text remaining i.manifest) (λ m. known_of _ (holds i.folder.now) (λ h. known_of _ (given_text remaining i.file) (λ f. known_of _ (given_text remaining i.state) (λ s. known_of _ (given_text remaining i.history) (λ t. (inr refl, inr refl, inr refl))))))

  module _ (manifest file state history : Option R) {Y : Type 0} (text : String Y) (is : IfSome (given_text remaining i.manifest) (TextIs (codes "the manifest") (Ok text))) (files : Files)
      (there : IfSome (holds i.folder.now) (λ h. (files ≡ present h (named_in (string_bytes text))) × (first_strange (present h (named_in (string_bytes text))) ≡ None))) where
    abbrev Are : Contents → Type 0
    Are h = (files ≡ present h (named_in (string_bytes text))) × (first_strange (present h (named_in (string_bytes text))) ≡ None)

    up_to_files : (m : List ℕ) (h : Contents) (f s t : List ℕ) → TextIs (codes "the manifest") (Ok text) m → Are h → AreText (before_file (given m h f s t))
    up_to_files m h f s t k l = rw k.1 (subst (λ n. first_strange (present h (named_in n)) ≡ None) k.0 l.1)

    -- the file was read
    pub at_file : IfGiven holds remaining i (StopsAtStranger i (record i { manifest = manifest; file = file }))
    at_file =
        known_so (TextIs (codes "the manifest") (Ok text)) _ (given_text remaining i.manifest) (λ m k. known_so Are _ (holds i.folder.now) (λ h l. known_of _ (given_text remaining i.file) (λ f. known_of _ (given_text remaining i.state) (λ s. known_of _ (given_text remaining i.history) (λ t.
        (inl (up_to_files m h f s t k l), inr refl, inr refl))))) there) is

    module _ {Z : Type 0} (file_text : String Z) (is_file : IfSome (given_text remaining i.file) (TextIs (codes "the file") (Ok file_text))) where
      -- the state was read
      pub at_state : IfGiven holds remaining i (StopsAtStranger i (record i { manifest = manifest; file = file; state = state }))
      at_state =
          known_so (TextIs (codes "the manifest") (Ok text)) _ (given_text remaining i.manifest) (λ m k. known_so Are _ (holds i.folder.now) (λ h l. known_so (TextIs (codes "the file") (Ok file_text)) _ (given_text remaining i.file) (λ f kf. known_of _ (given_text remaining i.state) (λ s. known_of _ (given_text remaining i.history) (λ t.
          let first = up_to_files m h f s t k l in
          (inl first, inl (one_more (before_file (given m h f s t)) (codes "the file") f first kf.1), inr refl)))) is_file) there) is

      module _ {X : Type 0} (state_text : String X) (is_state : IfSome (given_text remaining i.state) (TextIs (codes "the state") (Ok state_text))) where
        -- the history was read
        pub at_history : IfGiven holds remaining i (StopsAtStranger i (record i { manifest = manifest; file = file; state = state; history = history }))
        at_history =
            known_so (TextIs (codes "the manifest") (Ok text)) _ (given_text remaining i.manifest) (λ m k. known_so Are _ (holds i.folder.now) (λ h l. known_so (TextIs (codes "the file") (Ok file_text)) _ (given_text remaining i.file) (λ f kf.
            known_so (TextIs (codes "the state") (Ok state_text)) _ (given_text remaining i.state) (λ s ks. known_of _ (given_text remaining i.history) (λ t.
            let first = up_to_files m h f s t k l in
            let second = one_more (before_file (given m h f s t)) (codes "the file") f first kf.1 in
            (inl first, inl second, inl (one_more (before_state (given m h f s t)) (codes "the state") s second ks.1)))) is_state) is_file) there) is

-- With which manifest what is not UTF-8 is given back.
use Rattle.std.proofs.Common.{◌≡◌, ℕ, true, false, List, [], ◌∷◌, Option, Some, None, Ok, string_bytes, refl, sym, ap, subst, ◌∙◌}
use Rattle.std.specs.Prelude.{IfSome, String, codes, Bool, ◌&&◌, is_some, if◌then◌else◌}
use Rattle.loader.specs.NamedFiles.{named_in}
use Rattle.loader.specs.ProgramFiles.{Files}
use Rattle.engine.specs.declared.reading.Inputs.{Inputs}
use Rattle.engine.specs.declared.reading.Stranger.{Stranger}
use Rattle.engine.specs.declared.reading.Unread.{Unread}
use Rattle.engine.specs.declared.reading.Unread.TheVariants as faults
use Rattle.engine.specs.Files.{Contents, present}
use Rattle.engine.specs.Reading.{Given, GoesBy, IfGiven, given_text, naming, naming_text, strange_text}
use Rattle.engine.specs.Unread.{FailsAs, IsStrange, TextIs, first_strange}
use Rattle.engine.proofs.Gatherings.{fails_as}
use Rattle.engine.proofs.Known.{known_so, known_of}

-- `naming`, where it is known of the manifest and of the files whether they are UTF-8
abbrev naming_by : Bool → Option (List ℕ × List ℕ) → List ℕ → Option (List ℕ)
naming_by text strange m = if text && is_some strange then Some m else None

both : (e : Unread) (P Q : Stranger → Type 0) → FailsAs e P → FailsAs e Q → FailsAs e (λ s. P s × Q s)
both faults.NoMemory P Q p q = tt
both faults.CannotRead P Q p q = tt
both (faults.NotText s) P Q p q = (p, q)

module _ {F R : Type 0} (holds : F → Option Contents) (remaining : R → Option (List ℕ)) (i : Inputs F R) where
  abbrev om : Option (List ℕ)
  om = given_text remaining i.manifest

  abbrev oh : Option Contents
  oh = holds i.folder.now

  abbrev of : Option (List ℕ)
  of = given_text remaining i.file

  abbrev os : Option (List ℕ)
  os = given_text remaining i.state

  abbrev ot : Option (List ℕ)
  ot = given_text remaining i.history

  abbrev IsNamed : Unread → Type 0
  IsNamed e = IfGiven holds remaining i (λ g. FailsAs e (λ x. naming_text x ≡ naming g))

  pub manifest_named : (e : Unread) → FailsAs e (GoesBy (codes "the manifest")) → IfSome om (λ m. FailsAs e (IsStrange (codes "the manifest") m)) → IsNamed e
  manifest_named e by off =
      known_so (λ m. FailsAs e (IsStrange (codes "the manifest") m)) _ om (λ m no. known_of _ oh (λ h. known_of _ of (λ f. known_of _ os (λ s. known_of _ ot (λ t.
      fails_as e (λ x. IsStrange (codes "the manifest") m x × GoesBy (codes "the manifest") x) (λ x. naming_text x ≡ naming (record { sizes = i.sizes; manifest = m; folder = h; file = f; state = s; history = t }))
      (λ x is. is.1.1 ∙ sym (ap (λ b. naming_by b (first_strange (present h (named_in m))) m) is.0.0)) (both e _ _ no by)))))) off

  module _ {Y : Type 0} (text : String Y) (is : IfSome om (TextIs (codes "the manifest") (Ok text))) where
    abbrev names : List (List ℕ)
    names = named_in (string_bytes text)

    pub files_named : (e : Unread) → FailsAs e (λ x. naming_text x ≡ Some (string_bytes text)) → IfSome oh (λ h. FailsAs e (λ x. first_strange (present h names) ≡ Some (strange_text x))) → IsNamed e
    files_named e by off =
        known_so (TextIs (codes "the manifest") (Ok text)) _ om (λ m k. known_so (λ h. FailsAs e (λ x. first_strange (present h names) ≡ Some (strange_text x))) _ oh (λ h no.
        known_of _ of (λ f. known_of _ os (λ s. known_of _ ot (λ t.
        fails_as e (λ x. (first_strange (present h names) ≡ Some (strange_text x)) × (naming_text x ≡ Some (string_bytes text)))
        (λ x. naming_text x ≡ naming (record { sizes = i.sizes; manifest = m; folder = h; file = f; state = s; history = t }))
        (λ x at.
        let there : first_strange (present h (named_in m)) ≡ Some (strange_text x) = subst (λ n. first_strange (present h (named_in n)) ≡ Some (strange_text x)) k.0 at.0 in
        at.1 ∙ ap Some k.0 ∙ sym (ap (λ b. naming_by b (first_strange (present h (named_in m))) m) k.1 ∙ ap (λ o. naming_by true o m) there)) (both e _ _ no by))))) off) is

    module _ (files : Files) (there : IfSome oh (λ h. (files ≡ present h names) × (first_strange (present h names) ≡ None))) where
      -- a text behind the files
      pub other_named : (e : Unread) (name : List ℕ) → FailsAs e (GoesBy name) → IsNamed e
      other_named e name by =
          known_so (TextIs (codes "the manifest") (Ok text)) _ om (λ m k. known_so (λ h. (files ≡ present h names) × (first_strange (present h names) ≡ None)) _ oh (λ h are.
          known_of _ of (λ f. known_of _ os (λ s. known_of _ ot (λ t.
          fails_as e (GoesBy name) (λ x. naming_text x ≡ naming (record { sizes = i.sizes; manifest = m; folder = h; file = f; state = s; history = t }))
          (λ x at.
          let none : first_strange (present h (named_in m)) ≡ None = subst (λ n. first_strange (present h (named_in n)) ≡ None) k.0 are.1 in
          at.1 ∙ sym (ap (λ b. naming_by b (first_strange (present h (named_in m))) m) k.1 ∙ ap (λ o. naming_by true o m) none)) by)))) there) is

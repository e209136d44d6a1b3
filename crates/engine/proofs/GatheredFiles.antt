-- The files so far, and those of the names that are left.
use Rattle.std.proofs.Common.{◌≡◌, ℕ, ◌≤◌, List, [], ◌++◌, length, drop, map, Option, Some, None, Bor, sym, subst, ◌∙◌}
use Rattle.std.specs.Prelude.{IfSome}
use Rattle.std.proofs.lemmas.List.{at_drop_all, append-nil}
use Rattle.loader.specs.ProgramFiles.{Files}
use Rattle.engine.specs.declared.reading.NamedText.{NamedText}
use Rattle.engine.specs.Files.{Contents, present}
use Rattle.engine.specs.Reading.{named_texts}
use Rattle.engine.specs.Unread.{first_strange}

-- the files so far, and what is left of all names
pub record Kept (h : Contents) (files : Files) (rest all : List (List ℕ)) : Type 0 where
  pub joined : files ++ present h rest ≡ present h all
  pub strange : first_strange (present h rest) ≡ first_strange (present h all)

abbrev pub name_of : Bor (List ℕ) → List ℕ
name_of n = n.now

pub gathered : (all : List (List ℕ)) (names : List (Bor (List ℕ))) (i : ℕ) (files : List NamedText) (o : Option Contents) → length names ≤ i
    → IfSome o (λ h. Kept h (named_texts files) (map name_of (drop i names)) all)
    → IfSome o (λ h. (named_texts files ≡ present h all) × (first_strange (present h all) ≡ None))
gathered all names i files None le kept = tt
gathered all names i files (Some h) le kept =
    let none : map name_of (drop i names) ≡ [] = at_drop_all (map name_of) names i le in
    let k : Kept h (named_texts files) [] all = subst (λ x. Kept h (named_texts files) x all) none kept in
    (sym (append-nil (named_texts files)) ∙ k.joined, sym k.strange)

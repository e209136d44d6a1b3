-- The texts of files, one more at a time.
use Rattle.std.proofs.Common.{◌≡◌, ◌∙◌, ◌++◌, ◌<◌, ◌+◌, ℕ, List, [], ◌∷◌, length, get_or, sym, take, ap}
use Rattle.std.specs.Borrow.{Bor}
use Rattle.std.proofs.lemmas.List.{map_push, map_more}
use Rattle.loader.specs.ProgramFiles.{files_of}
use Rattle.host_calls.specs.declared.handles.File.{File}
use Rattle.host_calls.specs.Openings.{texts_of}

pub one_more : (files : List File) (k : ℕ) (d : File) → k < length files
    → (xs ys : List (Bor (List ℕ) × Bor (List ℕ))) (t : Bor (List ℕ) × Bor (List ℕ)) → ys ≡ xs ++ t ∷ []
    → files_of xs ≡ texts_of (take k files)
    → (t.0.now ≡ (get_or files k d).name.now) × (t.1.now ≡ (get_or files k d).text.now)
    → files_of ys ≡ texts_of (take (k + 1) files)
one_more files k d below xs ys t pushed before same =
    ap files_of pushed ∙ map_push (λ f. (f.0.now, f.1.now)) xs t ∙ (λ i. before i ++ (same.0 i, same.1 i) ∷ []) ∙ sym (map_more (λ (f : File). (f.name.now, f.text.now)) files k d below)

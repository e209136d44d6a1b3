use Rattle.std.proofs.Common.{[], ◌∷◌, ◌++◌}
use Rattle.std.specs.Prelude.{codes, decimal}
use Rattle.std.specs.String.{string_bytes}
use Rattle.loader.specs.Spelling.{mode_word}
use Rattle.explain.specs.Listing.{byte_word}
use Rattle.explain.proofs.Pieces.{both, on_ok}
use Rattle.explain.proofs.programs.listing.put_head.Goals as goal

pub returns : goal.returns
returns c =
    let s = c.args.subject.now in
    let old = string_bytes c.args.out.now in
    let a = codes "program " ∷ s.name.now ∷ codes ": line " ∷ [] in
    let b = decimal s.line ∷ codes ", " ∷ mode_word s.mode ∷ codes ", argument " ∷ [] in
    let d = decimal s.arg_len ∷ byte_word s.arg_len ∷ codes ", " ∷ [] in
    let second = both a b old _ _ c.in_ok-put_all.ensures (rw (c.format.ensures.text, c.mode_word.ensures) at c.in_ok-put_all-2.ensures) in
    let third = both (a ++ b) d old _ _ second (rw (c.format-2.ensures.text, c.plural.ensures) at c.in_ok-put_all-3.ensures) in
    on_ok c.put_all-4.result (λ last. both ((a ++ b) ++ d) (s.file.now ∷ codes "\n" ∷ []) old _ _ third last) c.put_all-4.ensures

use Rattle.std.proofs.Common.{[], ◌∷◌, ◌++◌, sym}
use Rattle.std.specs.Prelude.{codes, decimal}
use Rattle.std.proofs.lemmas.List.Folds.{concat-append}
use Rattle.explain.proofs.Pieces.{both, on_ok}
use Rattle.explain.proofs.Texts.{adds_front}
use Rattle.explain.proofs.files.faults.put_fault.Goals as goal

pub returns : goal.returns
returns c =
    let rule = codes "\nline " ∷ decimal c.args.line ∷ codes ": C" ∷ decimal c.args.number ∷ [] in
    let end = codes "\n" ∷ [] in
    let first = rw c.from.ensures at c.in_ok-put_numbers.ensures in
    on_ok c.put_all.result
    (λ put. adds_front (rule ++ end) (codes "      " ∷ _ ∷ []) _ _ _ (sym (concat-append rule end)) (both rule (codes "\n" ∷ codes "      " ∷ _ ∷ []) _ _ _ first put)) c.put_all.ensures

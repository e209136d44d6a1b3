use Rattle.std.proofs.Common.{[], ◌∷◌}
use Rattle.std.specs.Prelude.{codes, decimal}
use Rattle.explain.proofs.Pieces.{on_ok}
use Rattle.explain.proofs.Texts.{behind_both}
use Rattle.explain.proofs.files.manifest.Explanation.put_file.Goals as goal

pub returns : goal.returns
returns c =
    let head = codes "\nline " ∷ decimal c.args.self.now.line ∷ codes ": C" ∷ decimal c.args.number ∷ [] in
    let names = codes ", program " ∷ c.args.line.name.now ∷ codes ", " ∷ c.args.line.file.now ∷ codes "\n      " ∷ [] in
    on_ok c.put_all.result (λ put. behind_both head names c.args.told.now _ _ _ (rw c.from.ensures at c.in_ok-put_numbers.ensures) put) c.put_all.ensures

use Rattle.std.proofs.Common.{[], ◌∷◌}
use Rattle.std.specs.Prelude.{codes, decimal}
use Rattle.verifier.specs.Numbers.{fault_number}
use Rattle.explain.proofs.Pieces.{both, on_ok}
use Rattle.explain.proofs.refusals.put_number.Goals as goal

pub returns : goal.returns
returns c =
    let e = c.args.refused in
    let numbers = codes "      V" ∷ decimal (fault_number e.why) ∷ codes " at slot " ∷ decimal e.slot ∷ [] in
    on_ok c.put_all.result
    (λ put. both numbers (codes "." ∷ []) _ _ _ (rw (c.from-number.ensures, c.number.ensures.number) at c.in_ok-put_numbers.ensures) put) c.put_all.ensures

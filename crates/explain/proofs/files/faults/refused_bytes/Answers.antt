use Rattle.std.proofs.Common.{[], ◌∷◌, ◌++◌}
use Rattle.std.specs.Prelude.{codes, decimal}
use Rattle.insn.specs.Refusal.{fault_number}
use Rattle.explain.proofs.Pieces.{both}
use Rattle.explain.proofs.Texts.{begins_front}
use Rattle.explain.proofs.files.faults.refused_bytes.Goals as goal

pub returns : goal.returns
returns c =
    let e = c.args.refusal in
    let numbers = codes "D" ∷ decimal (fault_number e.why) ∷ codes " at slot " ∷ decimal e.slot ∷ [] in
    let first = rw (c.from-number.ensures, c.number.ensures.number) at c.in_ok-put_numbers.ensures in
    let whole = both numbers (codes "." ∷ codes "\n      " ∷ _ ∷ []) _ _ _ first c.in_ok-put_all.ensures in
    begins_front (numbers ++ codes "." ∷ []) (codes "\n      " ∷ _ ∷ []) _ _ c.new-out.ensures.bytes whole

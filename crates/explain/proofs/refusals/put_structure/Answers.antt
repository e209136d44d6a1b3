use Rattle.explain.proofs.Pieces.{on_ok}
use Rattle.explain.proofs.Reasons.{structure_told}
use Rattle.explain.proofs.refusals.put_structure.Goals as goal

pub returns : goal.returns
returns c =
    on_ok c.put_second.result (structure_told c.args.refused c.args.study.now.known.kinds _ _ _ _ _ (rw (← c.as_str.ensures.value) at c.in_ok-told.ensures) c.in_ok-put_number.ensures c.in_ok-put_all.ensures) c.put_second.ensures

use Rattle.explain.proofs.Pieces.{four, on_ok}
use Rattle.explain.proofs.programs.slots.put_changes.Goals as goal

pub returns : goal.returns
returns c = on_ok c.put_pointers.result (λ put. four _ _ _ _ _ _ _ _ _ c.in_ok-put_registers.ensures c.in_ok-put_bytes.ensures c.in_ok-put_bytes-2.ensures put) c.put_pointers.ensures

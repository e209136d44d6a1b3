use Rattle.std.proofs.Common.{◌*◌, arith}
use Rattle.insn.proofs.Slots.{slot_read}
use Rattle.insn.proofs.reading.slot_at.Goals as goal

pub returns : goal.returns
returns c =
    slot_read c.args.bytes.now (8 * c.args.slot) _ _ c.requires (λ i. omega (arith, c.type_inv.bytes i)) c.from_le_bytes.ensures c.from_le_bytes-2.ensures

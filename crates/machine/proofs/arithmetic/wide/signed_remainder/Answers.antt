use Rattle.std.proofs.Common.{arith}
use Rattle.machine.proofs.Signed.{code_smod_64}
use Rattle.machine.proofs.arithmetic.wide.signed_remainder.Goals as goal

pub returns-else-b-eq0 : goal.returns-else-b-eq0
returns-else-b-eq0 c =
    code_smod_64 c.args.a c.args.b c.cast_unsigned.result c.cast_signed.result c.cast_signed-else-b-eq0.result c.wrapping_rem.result (omega arith) (omega arith) c.if-b-eq0.false
    (record { sfits = c.wrapping_rem.type_inv }) c.cast_signed.ensures c.cast_signed-else-b-eq0.ensures c.wrapping_rem.ensures c.cast_unsigned.ensures

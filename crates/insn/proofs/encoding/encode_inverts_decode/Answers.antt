use Rattle.std.proofs.Common.{refl, sym}
use Rattle.insn.proofs.encoding.encode_inverts_decode.Goals as goal

pub returns : goal.returns
returns c = record {
  back = λ bytes p d. sym d.spelled;
  again = λ p each some few. record { each = each; spelled = refl; some = some; few = few };
}

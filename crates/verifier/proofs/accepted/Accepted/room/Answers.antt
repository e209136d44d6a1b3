use Rattle.std.proofs.Common.{◌≡◌, Some, None, ap, ◌∙◌, subst}
use Rattle.verifier.specs.declared.refusal.Refused.{Refused}
use Rattle.verifier.specs.declared.refusal.Mode.TheVariants.{Read}
use Rattle.verifier.specs.Signature.{signature}
use Rattle.verifier.specs.Typing.{IfRefused}
use Rattle.verifier.specs.Verdict.{verdict}
use Rattle.verifier.proofs.ZeroReply.{is_accepted}
use Rattle.verifier.proofs.accepted.Accepted.room.Goals as goal

pub unreachable-requires : goal.unreachable-requires
unreachable-requires c =
    let l = signature c.args.shapes.now 0 Read in
    let p = c.in_ok-zero_reply.field-0.items in
    let said : IfRefused (λ (e : Refused). verdict p l ≡ Some e) c.in-Err-Refused.field-0 = subst (λ s. IfRefused (λ (e : Refused). verdict p s ≡ Some e) c.in-Err-Refused.field-0) c.new-signature.ensures c.in-Err-Refused.ensures.reading in
    let some : verdict p l ≡ Some c.in-Err-Refused.field-0-0 = subst (IfRefused (λ (e : Refused). verdict p l ≡ Some e)) c.in-Err-Refused.field-0-is said in
    let none : verdict p l ≡ None = ap (λ q. verdict q l) c.in_ok-zero_reply.ensures ∙ is_accepted c.args.shapes.now in
    cc

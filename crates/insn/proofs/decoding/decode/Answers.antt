use Rattle.std.proofs.Common.{Ok, Some, Err, sym, ap, ◌∙◌, arith}
use Rattle.insn.specs.declared.decoding.DecodeError.TheVariants.{Refused}
use Rattle.insn.specs.Decoded.{decoded}
use Rattle.insn.proofs.Slots.{are_bytes}
use Rattle.insn.proofs.Laws.{decoded_as}
use Rattle.insn.proofs.Answered.{Answer, ReadsAs, found_by, only_this, first_refusal}
use Rattle.insn.proofs.decoding.decode.Goals as goal

pub returns-in-Some : goal.returns-in-Some
returns-in-Some c =
    let bytes = c.args.bytes.now in
    let fault = sym c.fault_of_length.ensures ∙ c.in-Some.is in
    let r : Answer = Err (Refused c.refused.result) in
    let reads : ReadsAs r (decoded bytes) = decoded_as bytes (Some c.in-Some.why) fault ∙ ap Err (sym c.refused.ensures) in
    record {
      found = tt;
      only = only_this bytes r reads;
      first = first_refusal bytes r (are_bytes bytes (λ k. omega (arith, c.type_inv.bytes k))) reads;
      reading = reads;
    }

pub returns-in-Ok-clause-found : goal.returns-in-Ok-clause-found
returns-in-Ok-clause-found c =
    let bytes = c.args.bytes.now in
    found_by bytes (Ok c.decode_into.new.program) (are_bytes bytes (λ k. omega (arith, c.type_inv.bytes k))) c.in-Ok.ensures.reading

pub returns-in-Ok-clause-only : goal.returns-in-Ok-clause-only
returns-in-Ok-clause-only c = only_this c.args.bytes.now (Ok c.decode_into.new.program) c.in-Ok.ensures.reading

pub returns-in-Err-clause-only : goal.returns-in-Err-clause-only
returns-in-Err-clause-only c = only_this c.args.bytes.now (Err (Refused c.in-Err.refusal)) c.in-Err.ensures.reading

pub returns-in-Err-clause-first : goal.returns-in-Err-clause-first
returns-in-Err-clause-first c =
    let bytes = c.args.bytes.now in
    first_refusal bytes (Err (Refused c.in-Err.refusal)) (are_bytes bytes (λ k. omega (arith, c.type_inv.bytes k))) c.in-Err.ensures.reading

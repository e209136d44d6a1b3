use Rattle.std.proofs.Common.{◌≡◌, Some, None, Ok, Err, sym, ap, ◌∙◌, subst}
use Rattle.std.specs.Prelude.{MatchResult}
use Rattle.insn.proofs.Laws.{decoded_as}
use Rattle.insn.proofs.decoding.decode_into.Goals as goal

pub returns-in-Some-clause-reading : goal.returns-in-Some-clause-reading
returns-in-Some-clause-reading c =
    decoded_as c.args.bytes.now (Some c.in-Some.why) (sym c.fault_of_length.ensures ∙ c.in-Some.is) ∙ ap Err (sym c.refused.ensures)

pub returns-in-None-clause-reading : goal.returns-in-None-clause-reading
returns-in-None-clause-reading c =
    let same = decoded_as c.args.bytes.now None (sym c.fault_of_length.ensures ∙ c.in-None.is) in
    subst (λ d. MatchResult c.read_slots.result (λ _. d ≡ Ok c.read_slots.new.program.items) (λ e. d ≡ Err e)) (sym same) c.read_slots.ensures.reading

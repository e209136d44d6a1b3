use Rattle.std.proofs.Common.{sym, ap, ◌∙◌}
use Rattle.insn.specs.Layout.{size}
use Rattle.verifier.specs.Signature.{signature}
use Rattle.verifier.specs.Verdict.{lowest_refusal}
use Rattle.verifier.proofs.VerdictLaws.{verdict_of_kinds}
use Rattle.verifier.proofs.explaining.explain.Goals as goal
use Rattle.verifier.proofs.explaining.explain.Goals.{in-Ok, in-Err}

pub returns-clause-refused : goal.returns-clause-refused
returns-clause-refused c =
    let p = c.args.program.now in
    let l = signature c.args.shapes.now c.args.arg_len c.args.mode in
    elim c.match-check_structure.branch [
      | in-Ok w ↦
          let structured = w.in-Ok.ensures.structured in
          ap (λ k. k.refused) w.known-is
          ∙ c.in_ok-known.ensures.refused structured.size_good
          ∙ ap (λ m. lowest_refusal p m (size p)) c.new-l.ensures
          ∙ sym (verdict_of_kinds p l structured)
      | in-Err w ↦ ap (λ k. k.refused) w.known-is ∙ sym (w.in-Err.ensures.reading l)
    ]

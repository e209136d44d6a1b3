use Rattle.std.proofs.Common.{sym, ◌∙◌}
use Rattle.verifier.proofs.VerdictLaws.{typing, refusal, verdict_of_kinds, never_typable}
use Rattle.verifier.proofs.Typed.{typed_by}
use Rattle.verifier.proofs.verification.check_kinds.Goals as goal

pub returns-in-None-clause-accepted : goal.returns-in-None-clause-accepted
returns-in-None-clause-accepted c = typing c.args.program.now c.args.l.now c.requires.structured (sym c.sweep.ensures.reading ∙ c.in-None.is)

pub returns-in-None-clause-frames : goal.returns-in-None-clause-frames
returns-in-None-clause-frames c =
    typed_by c.args.program.now c.args.l.now c.requires.structured c.sweep.new.frames.items c.sweep.ensures.slots (sym c.sweep.ensures.reading ∙ c.in-None.is)
    (λ t lt. c.in-None.ensures.known t lt tt)

pub returns-in-None-clause-reading : goal.returns-in-None-clause-reading
returns-in-None-clause-reading c = verdict_of_kinds c.args.program.now c.args.l.now c.requires.structured ∙ sym c.sweep.ensures.reading ∙ c.in-None.is

pub returns-in-Some-clause-only : goal.returns-in-Some-clause-only
returns-in-Some-clause-only c =
    let low = sym c.sweep.ensures.reading ∙ c.in-Some.is in
    λ typable. absurd (never_typable c.args.program.now c.args.l.now c.in-Some.refused c.requires.structured c.sweep.ensures.instructions low typable)

pub returns-in-Some-clause-refused : goal.returns-in-Some-clause-refused
returns-in-Some-clause-refused c = refusal c.args.program.now c.args.l.now c.requires.structured c.in-Some.refused (sym c.sweep.ensures.reading ∙ c.in-Some.is)

pub returns-in-Some-clause-reading : goal.returns-in-Some-clause-reading
returns-in-Some-clause-reading c = verdict_of_kinds c.args.program.now c.args.l.now c.requires.structured ∙ sym c.sweep.ensures.reading ∙ c.in-Some.is

use Rattle.verifier.proofs.VerdictLaws.{by_structure}
use Rattle.verifier.specs.Verdict.{refused}
use Rattle.verifier.proofs.verification.check_structure.Goals as goal

pub returns-in-Err-clause-reading : goal.returns-in-Err-clause-reading
returns-in-Err-clause-reading c =
    λ l. by_structure c.args.program.now l (refused c.in-Err.broken.slot c.fault_of_structure.result) (c.in-Err.broken.rule, c.in-Err.ensures.first, c.fault_of_structure.ensures)

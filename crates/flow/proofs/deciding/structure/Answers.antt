use Rattle.std.proofs.Common.{Some, sym, ap, ◌∙◌}
use Rattle.flow.proofs.Judged.{fault_of_bad, reads, decides, names_first}
use Rattle.flow.proofs.deciding.structure.Goals as goal

pub returns-in-Some-clause-structured : goal.returns-in-Some-clause-structured
returns-in-Some-clause-structured c =
    let p = c.args.program.now in
    decides p c.check_each.result (reads p c.in-Some.end c.check_each.result (sym c.in-Some.is ∙ c.good_size.ensures) c.check_each.ensures)

pub returns-in-Some-clause-first : goal.returns-in-Some-clause-first
returns-in-Some-clause-first c =
    let p = c.args.program.now in
    names_first p c.check_each.result (reads p c.in-Some.end c.check_each.result (sym c.in-Some.is ∙ c.good_size.ensures) c.check_each.ensures)

pub returns-in-Some-clause-reading : goal.returns-in-Some-clause-reading
returns-in-Some-clause-reading c =
    let p = c.args.program.now in
    reads p c.in-Some.end c.check_each.result (sym c.in-Some.is ∙ c.good_size.ensures) c.check_each.ensures

pub returns-in-None-clause-reading : goal.returns-in-None-clause-reading
returns-in-None-clause-reading c =
    let bad = fault_of_bad c.args.program.now (sym c.in-None.is ∙ c.good_size.ensures) in
    bad ∙ ap Some (sym c.broken.ensures)

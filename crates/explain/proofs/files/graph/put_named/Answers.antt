use Rattle.std.proofs.Common.{sym, ap, ◌∙◌}
use Rattle.std.specs.Prelude.{is_some}
use Rattle.loader.specs.LineShown.{program_of}
use Rattle.loader.specs.ProgramFiles.{files_of}
use Rattle.explain.proofs.Pieces.{on_ok}
use Rattle.explain.proofs.Graphs.{is_drawn, is_remark}
use Rattle.explain.proofs.files.graph.put_named.Goals as goal

pub returns-in-Some : goal.returns-in-Some
returns-in-Some c =
    let spells = sym c.in_ok-spelled.ensures ∙ ap (λ o. is_some o) c.in-Some.is in
    on_ok c.put_program.result (λ drawn. is_drawn (files_of c.args.files.now) c.args.number (program_of c.args.line) _ _ spells drawn) c.put_program.ensures

pub returns-in-None : goal.returns-in-None
returns-in-None c =
    let spells = sym c.in_ok-spelled.ensures ∙ ap (λ o. is_some o) c.in-None.is in
    on_ok c.put_remark.result (λ put. is_remark (files_of c.args.files.now) c.args.number (program_of c.args.line) _ _ spells put) c.put_remark.ensures

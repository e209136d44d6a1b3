use Rattle.std.proofs.Common.{sym, ◌∙◌}
use Rattle.loader.specs.LineShown.{program_of}
use Rattle.loader.specs.ProgramFiles.{files_of}
use Rattle.explain.specs.Explanation.{above_of}
use Rattle.explain.proofs.Pieces.{on_ok}
use Rattle.explain.proofs.Judged.{a_file, no_file, read_is, where_map}
use Rattle.explain.proofs.files.manifest.Explanation.put_program.Goals as goal

pub returns-in-Some : goal.returns-in-Some
returns-in-Some c =
    let s = c.args.self.now in
    let p = program_of c.args.line in
    let files = files_of s.files.now in
    on_ok c.put_text.result
    (λ told. where_map s.line (above_of s) p _ _ files (sym c.has_map.ensures ∙ c.if-not-has_map.false) (read_is s.line (above_of s) p _ _ _ _ (a_file files p.file _ (sym c.in-Some.ensures.text)) told)) c.put_text.ensures

pub returns-in-None : goal.returns-in-None
returns-in-None c =
    let s = c.args.self.now in
    let p = program_of c.args.line in
    let files = files_of s.files.now in
    on_ok c.put_fault.result
    (λ told. where_map s.line (above_of s) p _ _ files (sym c.has_map.ensures ∙ c.if-not-has_map.false) (read_is s.line (above_of s) p _ _ _ _ (no_file files p.file (sym c.in-None.ensures.text)) told)) c.put_fault.ensures

use Rattle.std.proofs.Common.{sym, ◌∙◌}
use Rattle.loader.specs.LineShown.{program_of}
use Rattle.loader.specs.ProgramFiles.{files_of}
use Rattle.explain.specs.Explanation.{above_of}
use Rattle.explain.proofs.Pieces.{on_ok}
use Rattle.explain.proofs.Judged.{all_told, if_asked}
use Rattle.explain.proofs.files.manifest.Explanation.put_asked.Goals as goal

pub returns : goal.returns
returns c =
    let s = c.args.self.now in
    let p = program_of c.args.line in
    let files = files_of s.files.now in
    on_ok c.put_program.result
    (λ told. if_asked s.line (above_of s) p _ _ files _ (sym c.is_asked.ensures ∙ c.if-not-is_asked.false) (all_told s.line (above_of s) p _ _ files _ _ c.in_ok-put_misplaced.ensures c.in_ok-put_beyond.ensures told)) c.put_program.ensures

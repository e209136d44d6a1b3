use Rattle.std.proofs.Common.{◌≡◌, Err}
use Rattle.insn.specs.Decoded.{decoded}
use Rattle.explain.specs.Explanation.{above_of}
use Rattle.loader.specs.LineShown.{program_of}
use Rattle.explain.proofs.Pieces.{on_ok}
use Rattle.explain.proofs.Judged.{a_program, no_program, refused_file, read_is}
use Rattle.explain.proofs.files.manifest.Explanation.put_bytes.Goals as goal

pub put_judged-requires-clause-few : goal.put_judged-requires-clause-few
put_judged-requires-clause-few c = rw c.deref.ensures.value c.in-Ok.ensures.found.few

pub returns-in-Ok : goal.returns-in-Ok
returns-in-Ok c =
    let s = c.args.self.now in
    on_ok c.put_judged.result
    (λ told. read_is s.line (above_of s) (program_of c.args.line) _ _ _ _ (a_program c.args.bytes.now _ c.in-Ok.ensures.reading) (rw c.deref.ensures.value at told)) c.put_judged.ensures

pub returns-in_ok-told-in-Err-Refused : goal.returns-in_ok-told-in-Err-Refused
returns-in_ok-told-in-Err-Refused c =
    let s = c.args.self.now in
    let e = c.in-Err-Refused.refusal in
    let reads : decoded c.args.bytes.now ≡ Err e = rw c.in-Err-Refused.field-0-is at c.in-Err-Refused.ensures.reading in
    on_ok c.put_file.result
    (λ put. read_is s.line (above_of s) (program_of c.args.line) _ _ _ _ (no_program c.args.bytes.now e reads) (refused_file s.line (above_of s) (program_of c.args.line) _ _ e _ c.in_ok-told-in-Err-Refused.ensures (rw c.as_str.ensures.value at put)))
    c.put_file.ensures

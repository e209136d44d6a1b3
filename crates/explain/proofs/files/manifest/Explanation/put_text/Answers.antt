use Rattle.std.proofs.Common.{◌≡◌, Some, None, sym, ap, ◌∙◌}
use Rattle.std.specs.Prelude.{option_map}
use Rattle.text.specs.Digits.{spaced_bytes}
use Rattle.loader.specs.LineShown.{program_of}
use Rattle.explain.specs.Explanation.{above_of}
use Rattle.explain.proofs.Pieces.{on_ok}
use Rattle.explain.proofs.Judged.{digits, no_digits, bad_file, read_is}
use Rattle.explain.proofs.files.manifest.Explanation.put_text.Goals as goal

pub returns-in-Some : goal.returns-in-Some
returns-in-Some c =
    let s = c.args.self.now in
    let is : spaced_bytes c.args.text.now ≡ Some c.in-Some.bytes.items = sym c.in_ok-bytes.ensures.bytes ∙ ap (λ o. option_map (λ v. v.items) o) c.in-Some.is in
    on_ok c.put_bytes.result
    (λ told. read_is s.line (above_of s) (program_of c.args.line) _ _ _ _ (digits c.args.text.now _ is) (rw c.deref.ensures.value at told)) c.put_bytes.ensures

pub returns-in_ok-told-in-None : goal.returns-in_ok-told-in-None
returns-in_ok-told-in-None c =
    let s = c.args.self.now in
    let is : spaced_bytes c.args.text.now ≡ None = sym c.in_ok-bytes.ensures.bytes ∙ ap (λ o. option_map (λ v. v.items) o) c.in-None.is in
    on_ok c.put_file.result
    (λ put. read_is s.line (above_of s) (program_of c.args.line) _ _ _ _ (no_digits c.args.text.now is) (bad_file s.line (above_of s) (program_of c.args.line) _ _ _ put)) c.put_file.ensures

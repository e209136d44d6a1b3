use Rattle.std.proofs.Common.{◌≡◌, Some, None, sym, ap, subst, ◌∙◌}
use Rattle.std.specs.Prelude.{is_ok, is_some, option_map, IfOk}
use Rattle.text.specs.Digits.{spaced_bytes}
use Rattle.loader.specs.ProgramFiles.{files_of}
use Rattle.explain.proofs.Judged.{a_file, digits, no_digits}
use Rattle.explain.proofs.files.graph.program_in.Goals as goal

pub returns-in_default-2 : goal.returns-in_default-2
returns-in_default-2 c =
    let is : spaced_bytes c.in-Some.text.now ≡ None = sym c.in_ok-bytes.ensures.bytes ∙ ap (λ o. option_map (λ v. v.items) o) c.in_default-2.is in
    sym (ap (λ r. is_ok r) (a_file (files_of c.args.files.now) c.args.name.now _ (sym c.in-Some.ensures.text) ∙ no_digits c.in-Some.text.now is))

pub returns : goal.returns
returns c =
    let is : spaced_bytes c.in-Some.text.now ≡ Some c.in-Some-2.bytes.items = sym c.in_ok-bytes.ensures.bytes ∙ ap (λ o. option_map (λ v. v.items) o) c.in-Some-2.is in
    let same = a_file (files_of c.args.files.now) c.args.name.now _ (sym c.in-Some.ensures.text) ∙ digits c.in-Some.text.now _ is in
    subst (λ b. IfOk c.decoded.result (λ o. is_some o ≡ b)) (sym (ap (λ r. is_ok r) same)) (rw c.deref.ensures.value at c.decoded.ensures)

use Rattle.std.proofs.Common.{◌≡◌, Some, None, Ok, Err, sym, ap, ◌∙◌}
use Rattle.std.specs.Prelude.{option_map}
use Rattle.text.specs.Digits.{spaced_bytes}
use Rattle.insn.specs.Decoded.{decoded}
use Rattle.loader.specs.ProgramFiles.{files_of}
use Rattle.explain.proofs.Export.{a_file, a_program, digits, no_digits, no_program}
use Rattle.findings.proofs.search.read_program.Goals as goal

pub returns-in_default-2-clause-read : goal.returns-in_default-2-clause-read
returns-in_default-2-clause-read c =
    let text = c.in-Some.text.now in
    let file = a_file (files_of c.args.files.now) c.args.name.now text (sym c.in-Some.ensures.text) in
    let none : spaced_bytes text ≡ None = sym c.in_ok-bytes.ensures.bytes ∙ ap (λ o. option_map (λ v. v.items) o) c.in_default-2.is in
    file ∙ no_digits text none

pub returns-in-Ok-clause-read : goal.returns-in-Ok-clause-read
returns-in-Ok-clause-read c =
    let text = c.in-Some.text.now in
    let file = a_file (files_of c.args.files.now) c.args.name.now text (sym c.in-Some.ensures.text) in
    let some : spaced_bytes text ≡ Some c.in-Some-2.bytes.items = sym c.in_ok-bytes.ensures.bytes ∙ ap (λ o. option_map (λ v. v.items) o) c.in-Some-2.is in
    let reads : decoded c.in-Some-2.bytes.items ≡ Ok c.in-Ok.program.items = rw c.deref.ensures.value at c.in-Ok.ensures.reading in
    file ∙ digits text _ some ∙ a_program _ _ reads

pub returns-clause-read : goal.returns-clause-read
returns-clause-read c =
    let text = c.in-Some.text.now in
    let e = c.in-Err-Refused.refusal in
    let file = a_file (files_of c.args.files.now) c.args.name.now text (sym c.in-Some.ensures.text) in
    let some : spaced_bytes text ≡ Some c.in-Some-2.bytes.items = sym c.in_ok-bytes.ensures.bytes ∙ ap (λ o. option_map (λ v. v.items) o) c.in-Some-2.is in
    let reads : decoded c.in-Some-2.bytes.items ≡ Err e = rw (c.deref.ensures.value, c.in-Err-Refused.field-0-is) at c.in-Err-Refused.ensures.reading in
    file ∙ digits text _ some ∙ no_program _ e reads

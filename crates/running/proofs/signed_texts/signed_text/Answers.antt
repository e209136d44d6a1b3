use Rattle.std.proofs.Common.{◌≡◌, ap, sym, subst, ◌∙◌, true, false}
use Rattle.std.specs.Prelude.{IfOk}
use Rattle.std.specs.List.{flat_map}
use Rattle.std.proofs.lemmas.Bool.{false≢true}
use Rattle.std.proofs.lemmas.Str.{is_utf8-from_IsUtf8, IsUtf8-had}
use Rattle.text.specs.Lines.{lines_of}
use Rattle.std.specs.Str.{is_utf8}
use Rattle.running.specs.Signed.{signed_line}
use Rattle.engine.proofs.Export.{not_text_from_err}
use Rattle.running.proofs.SignedRuns.{of_text, stays}
use Rattle.running.proofs.signed_texts.signed_text.Goals as goal

pub returns-in-Ok : goal.returns-in-Ok
returns-in-Ok c =
    let same = c.in-Ok.ensures.ok in
    let text : is_utf8 c.in-Ok.lines.bytes.items ≡ true = is_utf8-from_IsUtf8 _ (IsUtf8-had _ c.in-Ok.lines.ok) in
    let made = subst (λ bytes. IfOk c.signed_lines.result (λ v. v.items ≡ flat_map signed_line (lines_of bytes))) (c.as_str.ensures.value ∙ ap (λ v. v.items) same) c.signed_lines.ensures in
    of_text c.signed_lines.result c.args.text.items (sym (ap (λ v. is_utf8 v.items) same) ∙ text) made

pub returns-in-Err : goal.returns-in-Err
returns-in-Err c =
    let off : is_utf8 c.args.text.items ≡ false = not_text_from_err _ (λ t. false≢true (c.in-Err.ensures.succeeds t)) in
    ap (λ v. v.items) (c.into_bytes.ensures.value ∙ c.in-Err.ensures.err) ∙ sym (stays c.args.text.items off)

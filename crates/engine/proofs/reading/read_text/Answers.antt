use Rattle.std.proofs.Common.{◌≡◌, ap, sym, ◌∙◌, true}
use Rattle.std.proofs.lemmas.Bool.{false≢true}
use Rattle.std.proofs.lemmas.Str.{is_utf8-from_IsUtf8, IsUtf8-had}
use Rattle.std.specs.Str.{is_utf8}
use Rattle.engine.proofs.FoundTexts.{text_found, no_text, not_text_from_err}
use Rattle.engine.proofs.reading.read_text.Goals as goal

pub returns-in-Ok-from_utf8 : goal.returns-in-Ok-from_utf8
returns-in-Ok-from_utf8 g c =
    let same = c.in-Ok-from_utf8.ensures.ok in
    let text : is_utf8 c.in-Ok-from_utf8.text.bytes.items ≡ true = is_utf8-from_IsUtf8 _ (IsUtf8-had _ c.in-Ok-from_utf8.text.ok) in
    record { text = text_found c.args.name.now (g.R.Source.remaining c.args.reader.now) c.in-Ok-from_utf8.text c.in-Ok.read.items c.in-Ok.ensures.whole (ap (λ v. v.items) same) (sym (ap (λ v. is_utf8 v.items) same) ∙ text); named = tt; failed = tt; could = tt }

pub returns-in_ok-stranger-in-Err-clause-text : goal.returns-in_ok-stranger-in-Err-clause-text
returns-in_ok-stranger-in-Err-clause-text g c =
    no_text c.args.name.now (g.R.Source.remaining c.args.reader.now) c.in-Ok.read.items c.in_ok-stranger-in-Err.stranger c.in-Ok.ensures.whole
    (not_text_from_err _ (λ t. false≢true (c.in-Err.ensures.succeeds t)))
    (c.in_ok-stranger-in-Err.ensures.text ∙ ap (λ v. (c.args.name.now, v.items)) (c.into_bytes-bytes.ensures.value ∙ c.in-Err.ensures.err))

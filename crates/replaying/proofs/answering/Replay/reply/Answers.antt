use Rattle.std.proofs.Common.{◌≡◌, IfOk, Ok, sym, ap, ◌∙◌, subst}
use Rattle.std.specs.String.{string_bytes}
use Rattle.engine.specs.Opening.{on_which, opening, places_within}
use Rattle.engine.specs.Reading.{texts_read}
use Rattle.replaying.specs.Noted.{Explains, notes_on}
use Rattle.replaying.proofs.answering.Replay.reply.Goals as goal

-- what was told of the catalogue that was opened was told of what the texts open
pub returns-in_ok-replaying-in-On-clause-told : goal.returns-in_ok-replaying-in-On-clause-told
returns-in_ok-replaying-in-On-clause-told g c =
    let texts = texts_read c.args.texts.now in
    let opened = sym (ap on_which c.in-On.is) ∙ c.in_ok-catalogue.ensures.answered ∙ ap (λ n. opening n texts) c.places_within.ensures.places in
    subst (λ o. IfOk c.transcript_reply.result (λ _. Explains c.args.notes.now c.transcript_reply.new.notes (notes_on (string_bytes c.args.texts.now.file) o))) opened
    (subst (λ s. IfOk c.transcript_reply.result (λ _. Explains c.args.notes.now c.transcript_reply.new.notes (notes_on s (Ok c.in-On.catalogue)))) c.as_str-transcript.ensures.value c.transcript_reply.ensures.told)

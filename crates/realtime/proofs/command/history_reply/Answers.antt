use Rattle.std.proofs.Common.{◌≡◌, ◌*◌, ◌∙◌, List, length, Ok, string_bytes, sym, ap, ap₂, subst}
use Rattle.std.proofs.lemmas.Result.{IfOk-weaker}
use Rattle.text.specs.Lines.{lines_of}
use Rattle.engine.specs.Report.{answer_of}
use Rattle.realtime.specs.declared.histories.Timed.{Timed}
use Rattle.realtime.specs.Ranks.{ranks_of}
use Rattle.realtime.specs.Judging.{AreGood, calls_of, timed}
use Rattle.realtime.specs.TimedAnswer.{calls_answer}
use Rattle.realtime.proofs.Answered.{timed_by}
use Rattle.realtime.proofs.Reading.{good_calls}
use Rattle.realtime.proofs.command.history_reply.Goals as goal

pub calls_reply-requires : goal.calls_reply-requires
calls_reply-requires c =
    let ranks = c.deref.result.now in
    let lines = lines_of c.as_str-2.result.now in
    let all : calls_of ranks lines ≡ Ok c.in-Ok.calls.items = rw c.in-Ok.is at c.in_ok-calls.ensures.read in
    subst (λ (calls : List Timed). AreGood (2 * length calls) calls) (sym c.deref-in-Ok.ensures.value) (good_calls ranks lines c.in-Ok.calls.items all)

pub returns-in-Ok : goal.returns-in-Ok
returns-in-Ok c =
    let answer = answer_of c.args.reply in
    let texts = c.args.texts.now in
    let transcript = string_bytes texts.file in
    let history = string_bytes texts.history in
    let ranks = c.deref.result.now in
    let ranked : ranks ≡ ranks_of (lines_of transcript) = c.deref.ensures.value ∙ c.in_ok-ranks.ensures ∙ ap (λ text. ranks_of (lines_of text)) c.as_str.ensures.value in
    let all : calls_of ranks (lines_of c.as_str-2.result.now) ≡ Ok c.in-Ok.calls.items = rw c.in-Ok.is at c.in_ok-calls.ensures.read in
    let whole : calls_of (ranks_of (lines_of transcript)) (lines_of history) ≡ Ok c.deref-in-Ok.result.now =
    sym (ap₂ (λ ranks text. calls_of ranks (lines_of text)) ranked c.as_str-2.ensures.value) ∙ all ∙ ap Ok (sym c.deref-in-Ok.ensures.value) in
    IfOk-weaker c.calls_reply.result (λ r. answer_of r ≡ calls_answer answer c.deref-in-Ok.result.now) (λ r. answer_of r ≡ timed answer transcript history)
    (λ r same. same ∙ timed_by answer transcript history _ c.requires whole) c.calls_reply.ensures

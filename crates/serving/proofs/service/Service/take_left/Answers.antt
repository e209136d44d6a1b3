use Rattle.std.proofs.Common.{◌≡◌, true, false, sym, ap, ◌∙◌}
use Rattle.std.proofs.lemmas.Str.{is_utf8-from_IsUtf8}
use Rattle.oplog.specs.declared.configuration.TheConstants.{ENDLESS}
use Rattle.std.specs.Str.{is_utf8}
use Rattle.serving.specs.StoreText.{asks}
use Rattle.serving.proofs.KeptLines.{told_turn, read_turn, no_turn}
use Rattle.running.proofs.Export.{taken_so}
use Rattle.serving.proofs.LineTurns.{none_taken, told}
use Rattle.engine.proofs.Export.{not_text_from_err}
use Rattle.serving.proofs.service.Service.take_left.Goals as goal

pub returns-then-asks-clause-taken : goal.returns-then-asks-clause-taken
returns-then-asks-clause-taken c = λ s stands.
    let k = c.args.self.now.catalogue in
    let kept = c.as_slice-kept.result.now in
    let turn = told_turn s.has_values k s.history s.left kept (c.as_slice-kept.ensures.value ∙ stands.left) (sym c.asks.ensures ∙ c.if-asks.true) in
    told k s.history c.args.self.now.node c.args.self.now.answer.items c.put_store.new.out.items stands.follows c.in_ok-put_store.ensures _ turn

pub returns-in_default-clause-taken : goal.returns-in_default-clause-taken
returns-in_default-clause-taken c = λ s stands.
    let k = c.args.self.now.catalogue in
    let kept = c.as_slice-kept.result.now in
    none_taken k _ c.args.self.now.node c.args.self.now.answer.items
    (no_turn s.has_values k s.history s.left kept (c.as_slice-kept.ensures.value ∙ stands.left) (sym c.asks.ensures ∙ c.if-asks.false) (not_text_from_err kept c.in_default.ensures.cases.0))

pub returns-then-self-clause-taken : goal.returns-then-self-clause-taken
returns-then-self-clause-taken c = λ s stands.
    let k = c.args.self.now.catalogue in
    let line = c.in-Ok.ensures.cases in
    let text : is_utf8 c.in-Ok.line.now ≡ true = ap is_utf8 line.0 ∙ is_utf8-from_IsUtf8 _ line.1 in
    let off : asks c.in-Ok.line.now ≡ false = ap asks line.0 ∙ sym c.asks.ensures ∙ c.if-asks.false in
    taken_so ENDLESS k _ _ c.answer_values.new.node c.args.self.now.answer.items c.answer_values.new.out.items c.answer_values.result
    (read_turn s.has_values k s.history s.left c.in-Ok.line.now (line.0 ∙ c.as_slice-kept.ensures.value ∙ stands.left) true (sym stands.has_values ∙ c.if-self.true) off text)
    (c.answer_values.ensures.taken ENDLESS s.history stands.follows)

pub returns-else-self-clause-taken : goal.returns-else-self-clause-taken
returns-else-self-clause-taken c = λ s stands.
    let k = c.args.self.now.catalogue in
    let line = c.in-Ok.ensures.cases in
    let text : is_utf8 c.in-Ok.line.now ≡ true = ap is_utf8 line.0 ∙ is_utf8-from_IsUtf8 _ line.1 in
    let off : asks c.in-Ok.line.now ≡ false = ap asks line.0 ∙ sym c.asks.ensures ∙ c.if-asks.false in
    taken_so ENDLESS k _ _ c.take_line.new.node c.args.self.now.answer.items c.take_line.new.out.items c.take_line.result
    (read_turn s.has_values k s.history s.left c.in-Ok.line.now (line.0 ∙ c.as_slice-kept.ensures.value ∙ stands.left) false (sym stands.has_values ∙ c.if-self.false) off text)
    (c.take_line.ensures.taken ENDLESS s.history stands.follows)

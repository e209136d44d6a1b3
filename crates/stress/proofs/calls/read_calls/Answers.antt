use Rattle.std.proofs.Common.{◌≡◌, ◌∙◌, [], ◌∷◌, Some, None, sym, refl, map, subst, All}
use Rattle.std.proofs.lemmas.List.Elements.{All-push}
use Rattle.stress.specs.Playing.{IsReady, line_calls}
use Rattle.stress.specs.Shown.{called}
use Rattle.stress.proofs.Script.{none_here, one_here, bad_here, all_read}
use Rattle.stress.proofs.calls.read_calls.Goals as goal

pub returns-in-Bad-clause-calls : goal.returns-in-Bad-clause-calls
returns-in-Bad-clause-calls c =
    let taken = c.in-Some.ensures.taken in
    let ends = bad_here c.args.catalogue.now c.loop-number.lines.number c.loop-number.lines.lines c.in-Some.line.now c.take_line.new.self.lines taken.0 (map called c.loop-number.calls.items)
    (subst (λ n. None ≡ line_calls c.args.catalogue.now n c.in-Some.line.now) taken.1 c.in-Bad.ensures.said) in
    rw (sym c.loop-number.invariant.0 ∙ ends) taken.1

pub loop-number-preserved-in-Comment : goal.loop-number-preserved-in-Comment
loop-number-preserved-in-Comment c =
    let taken = c.in-Some.ensures.taken in
    let on = none_here c.args.catalogue.now c.loop-number.lines.number c.loop-number.lines.lines c.in-Some.line.now c.take_line.new.self.lines taken.0 (map called c.loop-number.calls.items)
    (subst (λ n. Some [] ≡ line_calls c.args.catalogue.now n c.in-Some.line.now) taken.1 c.in-Comment.ensures.said) in
    (rw taken.2 (on ∙ c.loop-number.invariant.0), c.loop-number.invariant.1, c.in-Comment.ensures.room)

pub loop-number-preserved : goal.loop-number-preserved
loop-number-preserved c =
    let taken = c.in-Some.ensures.taken in
    let on = one_here c.args.catalogue.now c.loop-number.lines.number c.loop-number.lines.lines c.in-Some.line.now c.take_line.new.self.lines taken.0 c.loop-number.calls.items c.in-Call.call
    (subst (λ n. Some (called c.in-Call.call ∷ []) ≡ line_calls c.args.catalogue.now n c.in-Some.line.now) taken.1 c.in-Call.ensures.said) in
    let pushed = c.in_ok-push-in-Call.ensures.items in
    let ready = All-push (IsReady c.args.catalogue.now) c.loop-number.calls.items c.in-Call.call c.loop-number.invariant.1 c.in-Call.ensures.ready in
    (rw (taken.2, pushed) (on ∙ c.loop-number.invariant.0), subst (All (IsReady c.args.catalogue.now)) (sym pushed) ready, c.in-Call.ensures.room)

pub returns-clause-calls : goal.returns-clause-calls
returns-clause-calls c =
    let taken = c.in_default.ensures.taken in
    let whole = all_read c.args.catalogue.now c.loop-number.lines.number c.loop-number.lines.lines (map called c.loop-number.calls.items) taken.0 in
    rw (sym c.loop-number.invariant.0 ∙ whole) refl

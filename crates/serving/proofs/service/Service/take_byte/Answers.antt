use Rattle.std.proofs.Common.{◌≡◌, ◌++◌, ap, sym, subst, ◌∙◌}
use Rattle.std.specs.Prelude.{OnOk}
use Rattle.std.proofs.lemmas.List.{append-nil}
use Rattle.std.proofs.lemmas.Result.{on_ok_weaker}
use Rattle.serving.specs.ServeAnswer.{Served}
use Rattle.serving.specs.ServiceKept.{Stands}
use Rattle.serving.proofs.Served.{one_feed, one_byte}
use Rattle.serving.proofs.service.Service.take_byte.Goals as goal

pub returns-then-byte-eq10-clause-answered : goal.returns-then-byte-eq10-clause-answered
returns-then-byte-eq10-clause-answered c = λ s stands.
    subst (λ (t : Served). OnOk c.end_line.result (c.end_line.new.out.items ≡ c.args.out.now.items ++ t.text)) (sym (one_feed c.args.self.now.catalogue s c.args.byte c.if-byte-eq10.true)) (c.end_line.ensures.answered s stands)

pub returns-then-byte-eq10-clause-goes_on : goal.returns-then-byte-eq10-clause-goes_on
returns-then-byte-eq10-clause-goes_on c =
    on_ok_weaker c.end_line.result
    (λ on. (on.0, λ s stands. subst (λ (t : Served). Stands t.serving c.end_line.new.self) (sym (one_feed c.args.self.now.catalogue s c.args.byte c.if-byte-eq10.true)) (on.1 s stands)))
    c.end_line.ensures.goes_on

pub returns-clause-answered : goal.returns-clause-answered
returns-clause-answered c = λ s stands.
    sym (ap (λ (t : Served). c.args.out.now.items ++ t.text) (one_byte c.args.self.now.catalogue s c.args.byte c.if-byte-eq10.false) ∙ append-nil c.args.out.now.items)

pub returns-clause-goes_on : goal.returns-clause-goes_on
returns-clause-goes_on c =
    let on = c.keep.ensures.goes_on in
    (on.0, λ s stands. subst (λ (t : Served). Stands t.serving c.keep.new.self) (sym (one_byte c.args.self.now.catalogue s c.args.byte c.if-byte-eq10.false)) (on.1 s stands))

use Rattle.std.proofs.Common.{◌++◌, refl, ◌∙◌, ap, sym, subst}
use Rattle.std.proofs.lemmas.List.{append-nil}
use Rattle.std.proofs.lemmas.Result.{err_from_is_err_and}
use Rattle.serving.specs.ServeAnswer.{Served}
use Rattle.serving.specs.ServiceKept.{Stands}
use Rattle.serving.proofs.Served.{none_served, text_on, stands_on}
use Rattle.serving.proofs.service.Service.take.Goals as goal

pub loop-byte-init : goal.loop-byte-init
loop-byte-init c = (
  c.requires.steady,
  refl,
  λ s stands. (
    sym (ap (λ (t : Served). c.args.out.now.items ++ t.text) (none_served c.args.self.now.catalogue s) ∙ append-nil c.args.out.now.items),
    subst (λ (t : Served). Stands t.serving c.args.self.now) (sym (none_served c.args.self.now.catalogue s)) stands,
  ),
)

pub loop-byte-preserved : goal.loop-byte-preserved
loop-byte-preserved c =
    let was = c.loop-byte.invariant in
    let on = c.in_ok-take_byte.ensures.goes_on in (
      c.in_ok-take_byte.ensures.steady,
      on.0 ∙ was.1,
      λ s stands. (
        text_on c.args.self.now.catalogue s c.args.bytes.now c.loop-byte.byte-index _ c.loop-byte-test.true refl c.loop-byte.self.catalogue was.1
            c.args.out.now.items c.loop-byte.out.items c.take_byte.new.out.items (was.2 s stands).0 (c.in_ok-take_byte.ensures.answered _ (was.2 s stands).1),
        stands_on c.args.self.now.catalogue s c.args.bytes.now c.loop-byte.byte-index _ c.loop-byte-test.true refl c.loop-byte.self.catalogue was.1
            c.take_byte.new.self (on.1 _ (was.2 s stands).1),
      ),
    )

pub returns-in_err-take_byte-clause-taken : goal.returns-in_err-take_byte-clause-taken
returns-in_err-take_byte-clause-taken c =
    let p = err_from_is_err_and c.from_residual.result c.from_residual.ensures.1 in
    rw p.1 (λ s stands. (
      c.loop-byte.byte-index,
      c.in_err-take_byte.ensures.kept ∙ (c.loop-byte.invariant.2 s stands).0,
      c.in_err-take_byte.ensures.at_hand ∙ (c.loop-byte.invariant.2 s stands).1.number,
    ))

use Rattle.std.proofs.Common.{◌≡◌, ◌+◌, suc, ap, arith, map, refl, take, subst, ◌∙◌}
use Rattle.std.specs.Prelude.{slice_set}
use Rattle.store.specs.Sessions.{said}
use Rattle.store.proofs.AskedEach.{said_all, said_long, said_more}
use Rattle.store.proofs.pipeline.say_each.Goals as goal

pub loop-number-init : goal.loop-number-init
loop-number-init c = record { first = refl; long = c.requires.room }

pub loop-number-preserved : goal.loop-number-preserved
loop-number-preserved c =
    let n = c.loop-number.number in
    let rs = c.args.replies.now in
    let before = c.loop-number.answers in
    let next : suc n ≡ n + 1 = omega arith in
    record {
      first = subst (λ m. take m (slice_set before n c.answer_of.result) ≡ take m (map said rs)) next
          (ap (λ z. take (suc n) (slice_set before n z)) c.answer_of.ensures.said ∙ said_more n before rs _ c.loop-number.invariant.long c.loop-number-test.true c.loop-number.invariant.first);
      long = said_long before n c.answer_of.result ∙ c.loop-number.invariant.long;
    }

pub returns : goal.returns
returns c =
    let n = c.loop-number.number in
    let past = c.loop-number-test.false in
    let upto = c.loop-number.auto.number-end in
    record { said = said_all n c.loop-number.answers c.args.replies.now c.loop-number.invariant.long (omega (arith, past, upto)) c.loop-number.invariant.first }

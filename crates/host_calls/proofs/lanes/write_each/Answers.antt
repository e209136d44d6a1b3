use Rattle.std.proofs.Common.{◌∙◌, ap, arith, refl, set}
use Rattle.host_calls.specs.Lanes.{outcome_of}
use Rattle.host_calls.proofs.Written.{all_put, put_on}
use Rattle.host_calls.proofs.lanes.write_each.Goals as goal

pub loop-number-init : goal.loop-number-init
loop-number-init c = refl

pub loop-number-preserved : goal.loop-number-preserved
loop-number-preserved c =
    let n = c.loop-number.number in
    ap (λ z. set c.loop-number.outcomes n z) c.outcome_of.ensures.outcome
    ∙ put_on outcome_of c.args.answers.now c.args.outcomes.now n _ c.loop-number-test.true c.requires.room c.loop-number.outcomes c.loop-number.invariant

pub returns : goal.returns
returns c =
    let past = c.loop-number-test.false in
    let upto = c.loop-number.auto.number-end in
    record { written = c.loop-number.invariant ∙ all_put outcome_of c.args.answers.now c.args.outcomes.now c.loop-number.number (omega (arith, past, upto)) }

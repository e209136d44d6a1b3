use Rattle.std.proofs.Common.{◌≡◌, ◌+◌, ◌≤◌, suc, ap, arith, drop, length, refl, subst, ◌∙◌}
use Rattle.accounts.proofs.Export.{at_below}
use Rattle.store_steps.specs.Questions.{first_refused_in, refused_or}
use Rattle.store_steps.proofs.Numbered.{no_more, one_more, one_more_may}
use Rattle.store_steps.proofs.questions.check_each.Goals as goal

pub loop-number-init : goal.loop-number-init
loop-number-init c = record { refused = refl; may = λ j q lt at. absurd (omega (arith, lt)) }

pub returns-in-Err : goal.returns-in-Err
returns-in-Err c =
    let n = c.loop-number.number in
    let qs = c.args.questions.now in
    let mode = c.args.mode in
    let cat = c.args.catalogue.now in
    record { refusal = c.loop-number.invariant.refused ∙ (one_more mode cat n n qs _ c.loop-number-test.true ∙ ap (λ r. refused_or n r (first_refused_in mode cat (suc n) (drop (suc n) qs))) c.in-Err.ensures.refusal); may = tt }

pub loop-number-preserved : goal.loop-number-preserved
loop-number-preserved c =
    let n = c.loop-number.number in
    let qs = c.args.questions.now in
    let mode = c.args.mode in
    let cat = c.args.catalogue.now in
    let next : suc n ≡ n + 1 = omega arith in
    record {
      refused = subst (λ m. first_refused_in mode cat 0 qs ≡ first_refused_in mode cat m (drop m qs)) next
          (c.loop-number.invariant.refused ∙ (one_more mode cat n n qs _ c.loop-number-test.true ∙ ap (λ r. refused_or n r (first_refused_in mode cat (suc n) (drop (suc n) qs))) c.in_default.ensures.refusal));
      may = one_more_may mode cat qs n _ c.loop-number.invariant.may c.in_default.ensures.may;
    }

pub returns : goal.returns
returns c =
    let n = c.loop-number.number in
    let qs = c.args.questions.now in
    let past = c.loop-number-test.false in
    let all : length qs ≤ n = omega (arith, past) in
    record {
      refusal = c.loop-number.invariant.refused ∙ no_more c.args.mode c.args.catalogue.now n n qs all;
      may = λ j q at. let below = at_below qs j q at in c.loop-number.invariant.may j q (omega (arith, below, all)) at;
    }

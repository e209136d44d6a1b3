use Rattle.std.proofs.Common.{◌≡◌, ⊎_elim, sym, subst, arith}
use Rattle.std.proofs.lemmas.Bool.{cases_lt}
use Rattle.accounts.proofs.Export.{at_below, at_one}
use Rattle.ownlock.specs.Seats.{At}
use Rattle.stress.specs.Teams.{IsUpdate}
use Rattle.stress.proofs.Standing.{stands}
use Rattle.stress.proofs.rounds.are_updates.Goals as goal

pub returns-then-not-is_update : goal.returns-then-not-is_update
returns-then-not-is_update c = (
  λ e. absurd cc,
  λ all. absurd (let none = c.if-not-is_update.true in let yes = c.is_update.ensures.1 (all c.loop-number.number _ (stands c.args.calls.now c.loop-number.number _ c.loop-number-test.true)) in cc),
)

pub loop-number-preserved : goal.loop-number-preserved
loop-number-preserved c j d below at =
    let n = c.loop-number.number in
    ⊎_elim (λ lt. c.loop-number.invariant j d lt at)
    (λ le.
    let same : n ≡ j = omega (arith, below, le) in
    let here = stands c.args.calls.now n _ c.loop-number-test.true in
    let one = c.is_update.ensures.0 (let yes = c.if-not-is_update.false in cc) in
    subst IsUpdate (at_one c.args.calls.now n _ d here (subst (λ k. At k d c.args.calls.now) (sym same) at)) one)
    (cases_lt j n)

pub returns : goal.returns
returns c = (
  λ e j d at. let below = at_below c.args.calls.now j d at in let past = c.loop-number-test.false in c.loop-number.invariant j d (omega (arith, below, past)) at,
  λ all. cc,
)

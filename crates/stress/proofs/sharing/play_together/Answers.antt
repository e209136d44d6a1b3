use Rattle.std.proofs.Common.{◌∙◌, ◌*◌, ◌<◌, ◌≤◌, suc, length, sym, subst, arith, mul-le-mul_right, suc-mul}
use Rattle.accounts.proofs.Export.{at_below}
use Rattle.stress.specs.Teams.{HasPlayed, IsNewTeam}
use Rattle.stress.proofs.Standing.{read, stands}
use Rattle.stress.proofs.sharing.play_together.Goals as goal

pub for_each_mut-requires-clause-accepts : goal.for_each_mut-requires-clause-accepts
for_each_mut-requires-clause-accepts g c κs within i p below same =
    let k = c.args.ground.now.together in
    let le : suc i * k ≤ length c.args.teams.now * k = mul-le-mul_right k below in
    let all = c.requires.all in
    let next = suc-mul i k in (
      c.requires.whole,
      (
        omega (arith, le, next, all),
        (c.requires.ready, subst (IsNewTeam c.args.ground.now i) (sym same) (c.requires.new i _ (stands c.args.teams.now i p.now below))),
      ),
    )

pub returns : goal.returns
returns g c = λ i t at.
    let below = at_below c.for_each_mut.new.s i t at in
    let did = (c.for_each_mut.ensures i t (subst (λ n. i < n) c.for_each_mut.auto.s below)).1 in
    subst (HasPlayed c.args.ground.now i) (did.left ∙ read c.for_each_mut.new.s i t at) did.call

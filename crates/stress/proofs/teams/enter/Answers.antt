use Rattle.std.proofs.Common.{◌≡◌, ◌∙◌, ⊎_elim, ◌+◌, ◌*◌, ◌<◌, ◌≤◌, [], length, take, drop, refl, sym, ap, subst, arith, rules, suc-mul}
use Rattle.std.proofs.lemmas.Bool.{cases_lt}
use Rattle.store.proofs.Export.{at_of_all}
use Rattle.stress.specs.declared.teams.Team.{Team}
use Rattle.std.specs.Prelude.{vec_capacity}
use Rattle.stress.proofs.EachTeam.{drop_more}
use Rattle.stress.proofs.Standing.{at_set, stands}
use Rattle.stress.proofs.teams.enter.Goals as goal

pub loop-number-init : goal.loop-number-init
loop-number-init c = (
  refl,
  ap (λ k. drop k c.args.sessions.now.items) (let e : 0 ≡ 0 * c.args.size = omega arith in e),
  refl,
  λ i t below at. absurd (omega (arith, below)),
  λ i t low at. at_of_all (λ (t : Team). (t.sessions.items ≡ []) × (c.args.size ≤ vec_capacity t.sessions)) c.args.teams.now c.requires.rooms i t at,
)

pub fill-requires-clause-empty : goal.fill-requires-clause-empty
fill-requires-clause-empty c =
    let there : c.loop-number.number < length c.loop-number.teams = (let long = c.loop-number.invariant.0 in let below = c.loop-number-test.true in omega (arith, long, below)) in
    (c.loop-number.invariant.4 c.loop-number.number _ (omega arith) (stands c.loop-number.teams c.loop-number.number _ there)).0

pub fill-requires-clause-room : goal.fill-requires-clause-room
fill-requires-clause-room c =
    let there : c.loop-number.number < length c.loop-number.teams = (let long = c.loop-number.invariant.0 in let below = c.loop-number-test.true in omega (arith, long, below)) in
    (c.loop-number.invariant.4 c.loop-number.number _ (omega arith) (stands c.loop-number.teams c.loop-number.number _ there)).1

pub loop-number-preserved : goal.loop-number-preserved
loop-number-preserved c =
    let h = c.loop-number.invariant in
    let n = c.loop-number.number in
    let size = c.args.size in
    let all = c.args.sessions.now.items in (
      search rules,
      c.fill.ensures.left ∙ ap (drop size) h.1 ∙ drop_more size (n * size) all ∙ ap (λ k. drop k all) (let e : n * size + size ≡ (n + 1) * size = (let s = suc-mul n size in omega (arith, s)) in e),
      c.fill.ensures.kept ∙ h.2,
      λ i t below at.
          ⊎_elim
          (λ e. subst (λ k. t.sessions.items ≡ take size (drop (k * size) all)) (sym e.0) (ap (λ (z : Team). z.sessions.items) (sym e.1) ∙ c.fill.ensures.moved ∙ ap (take size) h.1))
          (λ e. let other = e.0 in h.3 i t (⊎_elim (λ lt. lt) (λ le. absurd (other (omega (arith, below, le)))) (cases_lt i n)) e.1)
          (at_set c.loop-number.teams n _ i t at),
      λ i t low at. ⊎_elim (λ e. let same = e.0 in absurd (omega (arith, same, low))) (λ e. h.4 i t (omega (arith, low)) e.1) (at_set c.loop-number.teams n _ i t at),
    )

use Rattle.std.proofs.Common.{◌≡◌, ◌∙◌, ⊎_elim, ◌*◌, ◌<◌, ◌≤◌, length, refl, sym, ap, subst, arith, rules, mul-le-mul_right, suc-mul, suc}
use Rattle.std.proofs.lemmas.Bool.{cases_lt}
use Rattle.std.proofs.lemmas.List.{length-append}
use Rattle.std.specs.Prelude.{IfOk, slice_index_or, slice_set}
use Rattle.stress.specs.declared.teams.Team.{Team}
use Rattle.stress.specs.Teams.{AreTeam, HasPlayed, HaveMade, WereTold}
use Rattle.stress.proofs.EachTeam.{joined_back, none_back, no_team, team_behind}
use Rattle.stress.proofs.Standing.{at_set, stands}
use Rattle.stress.proofs.teams.leave.Goals as goal

pub loop-number-init : goal.loop-number-init
loop-number-init g c =
    let ground = c.args.ground.now in
    let empty = c.requires.empty in (
      refl,
      ap length empty ∙ (let e : 0 ≡ 0 * ground.together = omega arith in e),
      c.requires.room,
      subst (AreTeam ground.store.now 0) (sym empty) (no_team ground.store.now),
      none_back ground.sessions ground.calls.now c.args.sessions.now.items c.new.result.items empty (search rules),
      λ i t below at. absurd (omega (arith, below)),
      λ i t low at. c.requires.played i t at,
    )

pub give_back-all-requires : goal.give_back-all-requires
give_back-all-requires g c =
    let h = c.loop-number.invariant in
    let n = c.loop-number.number in
    let k = c.args.ground.now.together in
    let there : c.loop-number.number < length c.loop-number.teams = (let long = c.loop-number.invariant.0 in let below = c.loop-number-test.true in omega (arith, long, below)) in
    let size = (h.6 n _ (omega arith) (stands c.loop-number.teams n c.index-teams-number.result there)).size in
    let long = h.1 in
    let room = h.2 in
    let le : suc n * k ≤ length c.loop-number.teams * k = mul-le-mul_right k there in
    let next = suc-mul n k in
    record { room = omega (arith, size, long, room, le, next) }

pub loop-number-preserved : goal.loop-number-preserved
loop-number-preserved g c =
    let h = c.loop-number.invariant in
    let ground = c.args.ground.now in
    let n = c.loop-number.number in
    let k = ground.together in
    let there : c.loop-number.number < length c.loop-number.teams = (let long = c.loop-number.invariant.0 in let below = c.loop-number-test.true in omega (arith, long, below)) in
    let mine : Team = slice_index_or c.loop-number.teams n c.index-teams-number.result in
    let played : HasPlayed ground n mine = h.6 n _ (omega arith) (stands c.loop-number.teams n c.index-teams-number.result there) in
    let moved = c.give_back-all.ensures.moved in
    let long = h.1 in
    let size = played.size in
    let same : length (slice_set c.loop-number.teams n c.give_back-all.new.team) ≡ length c.loop-number.teams = search rules in (
      same ∙ h.0,
      ap length moved ∙ (let both = length-append c.loop-number.sessions.items mine.sessions.items in let next = suc-mul n k in omega (arith, both, long, size, next)),
      (let room = h.2 in let kept = c.give_back-all.ensures.kept in let e = ap (λ m. m * k) same in omega (arith, room, kept, e)),
      subst (AreTeam ground.store.now 0) (sym moved) (team_behind ground.store.now c.loop-number.sessions.items mine.sessions.items h.3 (subst (λ m. AreTeam ground.store.now m mine.sessions.items) (sym long) played.team)),
      subst (λ xs. IfOk c.give_back-all.result (λ v. WereTold ground.sessions ground.calls.now xs v.items)) (sym moved)
          (joined_back ground.sessions ground.calls.now (λ v. v.items) c.loop-number.sessions.items mine.sessions.items c.loop-number.all mine.told c.give_back-all.result c.give_back-all.ensures.told h.4
          (subst (λ m. IfOk mine.told (λ v. HaveMade ground.sessions m ground.calls.now mine.sessions.items v.items)) (sym long) played.made)),
      λ i t below at.
          ⊎_elim (λ e. ap (λ (z : Team). z.sessions.items) (sym e.1) ∙ c.give_back-all.ensures.vacant)
          (λ e. let other = e.0 in h.5 i t (⊎_elim (λ lt. lt) (λ le. absurd (other (omega (arith, below, le)))) (cases_lt i n)) e.1) (at_set c.loop-number.teams n _ i t at),
      λ i t low at. ⊎_elim (λ e. let same = e.0 in absurd (omega (arith, same, low))) (λ e. h.6 i t (omega (arith, low)) e.1) (at_set c.loop-number.teams n _ i t at),
    )

pub returns-clause-vacant : goal.returns-clause-vacant
returns-clause-vacant g c k d below =
    let past = c.loop-number-test.false in
    let upto = c.loop-number.auto.number-end in
    c.loop-number.invariant.5 k _ (let long = c.loop-number.invariant.0 in omega (arith, below, past, long)) (stands c.loop-number.teams k d below)

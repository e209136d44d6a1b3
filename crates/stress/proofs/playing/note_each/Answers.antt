use Rattle.std.proofs.Common.{◌≤◌, ◌<◌, length, sym, subst, rules}
use Rattle.std.specs.Prelude.{MatchResult}
use Rattle.store.proofs.Export.{at_read}
use Rattle.stress.specs.Teams.{Grow}
use Rattle.stress.proofs.EachTeam.{all_grown, one_grown}
use Rattle.stress.proofs.Standing.{stands}
use Rattle.stress.proofs.playing.note_each.Goals as goal

pub loop-number-preserved : goal.loop-number-preserved
loop-number-preserved c =
    let n = c.loop-number.number in
    let answers = c.in_ok-answers.answers.items in
    let below : n < length answers = search rules in
    let long = c.loop-number.invariant.long in
    let there : n < length c.loop-number.told = search rules in
    one_grown c.args.told.now answers n c.loop-number.told _ c.push.new.self c.index.result.now c.loop-number.invariant (search rules)
    (stands c.loop-number.told n c.index-told-number.result there) (at_read answers n c.index.result.now below (search rules)) c.in_ok-push.ensures.items

pub returns : goal.returns
returns c =
    let answers = c.in_ok-answers.answers.items in
    let past : length answers ≤ c.loop-number.number = search rules in
    let upto : c.loop-number.number ≤ length answers = search rules in
    let all = all_grown c.args.told.now answers c.loop-number.number c.loop-number.told past c.loop-number.invariant upto in
    subst (λ r. MatchResult r (λ a. Grow c.args.told.now c.loop-number.told a.items) (λ _. ⊥)) (sym c.in_ok-answers.was) all

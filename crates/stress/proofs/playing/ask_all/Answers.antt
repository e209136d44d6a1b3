use Rattle.std.proofs.Common.{◌≡◌, ◌∙◌, ◌+◌, ◌≤◌, ◌<◌, List, length, take, drop, sym, subst, rules, arith}
use Rattle.std.specs.Prelude.{IfOk, MatchResult, false, is_err}
use Rattle.std.proofs.lemmas.List.{nil_from_length}
use Rattle.std.proofs.lemmas.List.Elements.{All-drop}
use Rattle.stress.specs.declared.calls.ScriptCall.{ScriptCall}
use Rattle.stress.specs.Playing.{IsReady}
use Rattle.stress.specs.Teams.{AreAtWork, AreOnOneNode, Grow, MakeEach, held_in}
use Rattle.stress.proofs.EachCall.{ascending}
use Rattle.stress.proofs.EachTeam.{all_done, starts}
use Rattle.stress.proofs.RoundMore.{round_more, unless_err, written_back}
use Rattle.stress.proofs.playing.ask_all.Goals as goal

pub loop-left-init : goal.loop-left-init
loop-left-init g c =
    let ground = c.args.ground.now in
    let team = c.requires.team in
    let size = c.requires.size.0 in (
      team.team,
      size,
      rw c.behind-left.ensures (All-drop (IsReady ground.store.now.catalogue) c.args.first ground.calls.now c.requires.ready),
      rw c.behind-left.ensures (starts ground.sessions c.args.first ground.calls.now (held_in c.args.hand.held) c.in-Ok.told.items (c.in-Ok.ensures.0 ∙ sym size) c.in-Ok.ensures.1 team.new),
    )

pub ask_round-after-requires-clause-ascending : goal.ask_round-after-requires-clause-ascending
ask_round-after-requires-clause-ascending g c =
    let store = c.args.ground.now.store.now in
    let sessions = held_in c.loop-left.hand.held in
    let size = c.loop-left.invariant.1 in
    let pos = c.requires.size.1 in
    let some : 0 < length sessions = omega (arith, size, pos) in
    ascending store store.config c.args.first sessions c.loop-left.invariant.0 some (subst (AreOnOneNode store.config c.args.first) (sym size) c.requires.node)

pub loop-left-preserved : goal.loop-left-preserved
loop-left-preserved g c =
    let ground = c.args.ground.now in
    let first = c.args.first in
    let calls = ground.calls.now in
    let left = c.loop-left.left.now in
    let old = held_in c.loop-left.hand.held in
    let new = held_in c.ask_round-after.result.0.held in
    let answers = c.ask_round-after.result.1 in
    let told = c.deref_mut.result.now in
    let now = c.note_each.new.told in
    let size = c.loop-left.invariant.1 in
    let within = c.requires.within in
    let pos = c.requires.size.1 in
    let some : 0 < ground.sessions = omega (arith, within, pos) in
    let work : AreAtWork ground.sessions first calls left old told = subst (AreAtWork ground.sessions first calls left old) (sym c.deref_mut.ensures.value) c.loop-left.invariant.3 in
    let made : IfOk answers (λ v. MakeEach first (take ground.together left) old new v.items) =
    subst (λ (cs : List ScriptCall). IfOk answers (λ v. MakeEach first cs old new v.items)) c.front-calls.ensures c.ask_round-after.ensures.made in
    let value = c.is_err.ensures.value in
    let test = c.if-is_err.false in
    let good : is_err c.note_each.result ≡ false = cc in
    let grown = unless_err c.note_each.result (MatchResult answers (λ a. Grow told now a.items) (λ _. ⊥)) good c.note_each.ensures in
    let next = round_more ground.sessions first calls left old new told now ground.together answers size some work made grown in
    let long : length now ≡ c.loop-left.told.len = c.note_each.auto.told ∙ c.deref_mut.ensures.len in (
      c.ask_round-after.ensures.team.0,
      c.ask_round-after.ensures.team.1 ∙ size,
      rw c.behind-left-in-loop-left.ensures (All-drop (IsReady ground.store.now.catalogue) ground.sessions left c.loop-left.invariant.2),
      written_back ground.sessions first calls left c.behind-left-in-loop-left.result.now new now (drop (length now) c.loop-left.told.items) c.loop-left.told.len long c.behind-left-in-loop-left.ensures
          next,
    )

pub returns-clause-made : goal.returns-clause-made
returns-clause-made g c =
    let ground = c.args.ground.now in
    let sessions = held_in c.loop-left.hand.held in
    let none : length c.loop-left.left.now ≡ 0 = search rules in
    let size = c.loop-left.invariant.1 in
    let limit = c.requires.within in
    let within : c.args.first + length sessions ≤ ground.sessions = omega (arith, size, limit) in
    all_done ground.sessions c.args.first ground.calls.now c.loop-left.left.now sessions c.loop-left.told.items (nil_from_length c.loop-left.left.now none) within c.loop-left.invariant.3

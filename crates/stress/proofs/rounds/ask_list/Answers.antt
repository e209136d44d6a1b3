use Rattle.std.proofs.Common.{sym, subst, arith, rules}
use Rattle.store.specs.Pipelines.{MayUpdateEach}
use Rattle.store.proofs.Export.{at_of_all}
use Rattle.stress.specs.Playing.{IsReady}
use Rattle.stress.specs.Teams.{AreQuestions, GoTogether, IsToldList, MakeEach}
use Rattle.stress.proofs.EachCall.{list_made, may_update, team_goes_on}
use Rattle.stress.proofs.RoundMore.{if_left}
use Rattle.stress.proofs.rounds.ask_list.Goals as goal

pub spelled-requires : goal.spelled-requires
spelled-requires g c = record { ready = (c.args.ground.now.store.now.catalogue, c.requires.ready) }

pub unreachable-requires : goal.unreachable-requires
unreachable-requires g c =
    let store = c.args.ground.now.store.now in
    let calls = c.args.round.calls.now in
    let qs = c.deref-2.result.now in
    let are : AreQuestions calls qs = subst (AreQuestions calls) (sym c.deref-2.ensures.value) c.in_ok-questions.ensures in
    let may : MayUpdateEach store qs = may_update store calls qs (λ j d at. at_of_all (IsReady store.catalogue) calls c.requires.ready j d at) are in
    let done = (c.invoke_each.ensures.answered may).0 in
    search rules

pub returns-clause-team : goal.returns-clause-team
returns-clause-team g c =
    let goes = c.invoke_each.ensures.sessions in
    (team_goes_on c.args.ground.now.store.now c.args.round.first c.args.pipeline.now c.invoke_each.new.self c.requires.team goes, goes.0)

pub returns-clause-made : goal.returns-clause-made
returns-clause-made g c =
    let store = c.args.ground.now.store.now in
    let first = c.args.round.first in
    let calls = c.args.round.calls.now in
    let old = c.args.pipeline.now in
    let new = c.invoke_each.new.self in
    let qs = c.deref-2.result.now in
    let answers = c.invoke_each.new.answers in
    let are : AreQuestions calls qs = subst (AreQuestions calls) (sym c.deref-2.ensures.value) c.in_ok-questions.ensures in
    let h = c.invoke_each.ensures in
    let may : MayUpdateEach store qs = may_update store calls qs (λ j d at. at_of_all (IsReady store.catalogue) calls c.requires.ready j d at) are in
    if_left (λ v. IsToldList first calls answers v.items) (λ v. MakeEach first calls old new v.items) c.told_of_list.result
    (λ v list. list_made store first calls old new qs answers v.items are h.sessions (h.answered may).1 h.others list) c.told_of_list.ensures

pub returns-clause-together : goal.returns-clause-together
returns-clause-together g c =
    let h = c.invoke_each.ensures in
    let answers = c.invoke_each.new.answers in
    let qs = c.deref-2.result.now in
    let calls = c.args.round.calls.now in
    let are : AreQuestions calls qs = subst (AreQuestions calls) (sym c.deref-2.ensures.value) c.in_ok-questions.ensures in
    let store = c.args.ground.now.store.now in
    let may : MayUpdateEach store qs = may_update store calls qs (λ j d at. at_of_all (IsReady store.catalogue) calls c.requires.ready j d at) are in
    let some = c.requires.calls.0 in
    let long = are.long in
    let held = h.held may (omega (arith, some, long)) in
    if_left (λ v. IsToldList c.args.round.first calls answers v.items) (λ v. GoTogether calls c.args.pipeline.now c.invoke_each.new.self v.items) c.told_of_list.result
    (λ v list. record { questions = qs; asks = are; answers = answers; said = list.said; held = held }) c.told_of_list.ensures

use Rattle.std.proofs.Common.{Ok, Option, subst}
use Rattle.verifier.specs.declared.refusal.Mode.TheVariants.{Update}
use Rattle.store_steps.specs.Questions.{first_refused_in}
use Rattle.store.specs.PolledPipelines.{TellsListed}
use Rattle.host_calls.proofs.Listed.{begun_told, new_list, on_and_on, own_on, waits_now}
use Rattle.host_calls.proofs.Posted.{none_of}
use Rattle.host_calls.proofs.lanes.begin.Goals as goal

pub go_on-requires-clause-own : goal.go_on-requires-clause-own
go_on-requires-clause-own c = own_on c.args.store.now c.args.sessions.now c.try_invoke_each.new.self c.try_invoke_each.ensures.sessions

pub go_on-requires-clause-waiting : goal.go_on-requires-clause-waiting
go_on-requires-clause-waiting c =
    let old = c.args.sessions.now in
    let mid = c.try_invoke_each.new.self in
    let calls = c.args.calls.now in
    let none = none_of (first_refused_in Update c.args.store.now.catalogue 0 calls) (λ r is. let never = (c.in-Ok-Some.ensures.early r is).0 in absurd cc) in
    let asks = subst (λ (x : Option (Unit {0})). TellsListed old mid calls (Ok x)) c.in-Ok-Some.field-0-is (c.in-Ok-Some.ensures.asked none) in
    waits_now old mid calls c.try_invoke_each.ensures.sessions.0 c.requires.few.1 c.requires.idle asks c.try_invoke_each.ensures.others

pub returns-in-Ok-Some-clause-sessions : goal.returns-in-Ok-Some-clause-sessions
returns-in-Ok-Some-clause-sessions c = on_and_on c.args.store.now c.args.sessions.now c.try_invoke_each.new.self c.go_on.new.sessions c.try_invoke_each.ensures.sessions c.go_on.ensures.sessions

pub returns-in-Ok-Some-clause-tells : goal.returns-in-Ok-Some-clause-tells
returns-in-Ok-Some-clause-tells c =
    let old = c.args.sessions.now in
    let mid = c.try_invoke_each.new.self in
    let new = c.go_on.new.sessions in
    let calls = c.args.calls.now in
    let before = c.args.outcomes.now in
    let after = c.go_on.new.outcomes in
    let none = none_of (first_refused_in Update c.args.store.now.catalogue 0 calls) (λ r is. let never = (c.in-Ok-Some.ensures.early r is).0 in absurd cc) in
    let asks = subst (λ (x : Option (Unit {0})). TellsListed old mid calls (Ok x)) c.in-Ok-Some.field-0-is (c.in-Ok-Some.ensures.asked none) in
    begun_told c.args.store.now calls before after old new c.go_on.result none (new_list c.args.store.now calls before after old mid new c.go_on.result c.try_invoke_each.ensures.sessions asks c.go_on.ensures.sessions c.go_on.ensures.tells)

use Rattle.std.proofs.Common.{rules, ◌≡◌, ◌<◌, ◌≤◌, List, length, get_or, subst, arith}
use Rattle.std.specs.Arc.{arc_value}
use Rattle.store_steps.specs.declared.steps.Question.{Question}
use Rattle.store.specs.Opening.{AreOf}
use Rattle.store.specs.Pipelines.{OthersStay}
use Rattle.store.specs.Sessions.{StoreView}
use Rattle.host_calls.specs.Lanes.{TellsBegun}
use Rattle.host_calls.proofs.Tellings.{first_at, long_lane, still_home, tells_begun, tells_long, tells_none, tells_on, tells_short}
use Rattle.host_calls.proofs.lanes.Lane.update_each.Goals as goal

pub returns-then-outcomes-out : goal.returns-then-outcomes-out
returns-then-outcomes-out c =
    let l = c.self.inside in let homes = l.homes.items in let home = c.self.invariant.0 in let out = c.waiting-out in
    record { tells = tells_short homes l.sessions c.args.self.now home c.self.view_is c.args.asked.now c.args.outcomes.now out.result out.ensures.waiting out.ensures.few _ c.self.view_is c.if-out-gt0.true c.if-outcomes-out.true }

pub go_on-requires-clause-own : goal.go_on-requires-clause-own
go_on-requires-clause-own c =
    let l = c.self.inside in let homes = l.homes.items in let home = c.self.invariant.0 in let out = c.waiting-out in
    let some : 0 < length homes = let positive = c.if-out-gt0.true in let few = out.ensures.few in let count = home.count in omega (arith, positive, few, count) in
    let h = c.index.result.now in let is : arc_value h.store ≡ c.deref.result.now = search rules in
    let there : h ≡ get_or homes 0 h = search rules in let first = first_at homes h some there in
    subst (λ (z : StoreView). AreOf z l.sessions) is (home.own 0 h first)

pub invariant_of-self-then-out-gt0 : goal.invariant_of-self-then-out-gt0
invariant_of-self-then-out-gt0 c =
    let l = c.self.inside in let homes = l.homes.items in let home = c.self.invariant.0 in let out = c.waiting-out in
    let some : 0 < length homes = let positive = c.if-out-gt0.true in let few = out.ensures.few in let count = home.count in omega (arith, positive, few, count) in
    let h = c.index.result.now in let is : arc_value h.store ≡ c.deref.result.now = search rules in
    let there : h ≡ get_or homes 0 h = search rules in let first = first_at homes h some there in
    (still_home homes l.sessions c.args.self.now home c.self.view_is c.args.asked.now c.args.outcomes.now out.result out.ensures.waiting out.ensures.few c.go_on.new.sessions c.go_on.new.outcomes c.go_on.result h first c.deref.result.now is c.go_on.ensures.sessions, c.self.invariant.1)

pub returns-then-out-gt0 : goal.returns-then-out-gt0
returns-then-out-gt0 c =
    let l = c.self.inside in let homes = l.homes.items in let home = c.self.invariant.0 in let out = c.waiting-out in
    let some : 0 < length homes = let positive = c.if-out-gt0.true in let few = out.ensures.few in let count = home.count in omega (arith, positive, few, count) in
    let h = c.index.result.now in let is : arc_value h.store ≡ c.deref.result.now = search rules in
    let there : h ≡ get_or homes 0 h = search rules in let first = first_at homes h some there in
    record {
      tells = tells_on homes l.sessions c.args.self.now home c.self.view_is c.args.asked.now c.args.outcomes.now out.result out.ensures.waiting out.ensures.few c.go_on.new.sessions c.go_on.new.outcomes c.go_on.result h first c.deref.result.now is c.go_on.ensures.sessions
          c.if-out-gt0.true c.go_on.ensures.others c.go_on.ensures.tells c.if-outcomes-out.false;
    }

pub returns-then-asked-len : goal.returns-then-asked-len
returns-then-asked-len c =
    let l = c.self.inside in let homes = l.homes.items in let home = c.self.invariant.0 in let out = c.waiting-out in
    let none : out.result ≡ 0 = let few = c.if-out-gt0.false in omega (arith, few) in
    let more = c.if-asked-len.true in
    let is = c.len.ensures.count in
    let long = long_lane homes l.sessions c.args.self.now home c.self.view_is in
    record { tells = tells_long homes l.sessions c.args.self.now home c.self.view_is c.args.asked.now c.args.outcomes.now out.result out.ensures.waiting out.ensures.few _ c.self.view_is none (λ fits. let few = fits.0 in omega (arith, few, more, is, long)) }

pub returns-then-outcomes-asked : goal.returns-then-outcomes-asked
returns-then-outcomes-asked c =
    let l = c.self.inside in let homes = l.homes.items in let home = c.self.invariant.0 in let out = c.waiting-out in
    let none : out.result ≡ 0 = let few = c.if-out-gt0.false in omega (arith, few) in
    let more = c.if-outcomes-asked.true in
    record { tells = tells_long homes l.sessions c.args.self.now home c.self.view_is c.args.asked.now c.args.outcomes.now out.result out.ensures.waiting out.ensures.few _ c.self.view_is none (λ fits. let few = fits.1 in omega (arith, few, more)) }

pub returns-then-is_empty : goal.returns-then-is_empty
returns-then-is_empty c =
    let l = c.self.inside in let homes = l.homes.items in let home = c.self.invariant.0 in let out = c.waiting-out in
    let none : out.result ≡ 0 = let few = c.if-out-gt0.false in omega (arith, few) in
    let empty : length c.args.asked.now ≡ 0 = search rules in
    record { tells = tells_none homes l.sessions c.args.self.now home c.self.view_is c.args.asked.now c.args.outcomes.now out.result out.ensures.waiting out.ensures.few _ c.self.view_is none empty }

pub begin-requires-clause-own : goal.begin-requires-clause-own
begin-requires-clause-own c =
    let l = c.self.inside in let homes = l.homes.items in let home = c.self.invariant.0 in let out = c.waiting-out in
    let none : out.result ≡ 0 = let few = c.if-out-gt0.false in omega (arith, few) in let asks : 0 < length c.args.asked.now = search rules in
    let fits : length c.args.asked.now ≤ length l.sessions = let le = c.if-asked-len.false in let is = c.len.ensures.count in omega (arith, le, is) in let some : 0 < length homes = let count = home.count in omega (arith, asks, fits, count) in
    let h = c.index-2.result.now in let is : arc_value h.store ≡ c.deref-2.result.now = search rules in
    let there : h ≡ get_or homes 0 h = search rules in let first = first_at homes h some there in
    subst (λ (z : StoreView). AreOf z l.sessions) is (home.own 0 h first)

pub invariant_of-self-2 : goal.invariant_of-self-2
invariant_of-self-2 c =
    let l = c.self.inside in let homes = l.homes.items in let home = c.self.invariant.0 in let out = c.waiting-out in
    let none : out.result ≡ 0 = let few = c.if-out-gt0.false in omega (arith, few) in let asks : 0 < length c.args.asked.now = search rules in
    let fits : length c.args.asked.now ≤ length l.sessions = let le = c.if-asked-len.false in let is = c.len.ensures.count in omega (arith, le, is) in let some : 0 < length homes = let count = home.count in omega (arith, asks, fits, count) in
    let h = c.index-2.result.now in let is : arc_value h.store ≡ c.deref-2.result.now = search rules in
    let there : h ≡ get_or homes 0 h = search rules in let first = first_at homes h some there in
    (still_home homes l.sessions c.args.self.now home c.self.view_is c.args.asked.now c.args.outcomes.now out.result out.ensures.waiting out.ensures.few c.begin.new.sessions c.begin.new.outcomes c.begin.result h first c.deref-2.result.now is c.begin.ensures.sessions, c.self.invariant.1)

pub returns : goal.returns
returns c =
    let l = c.self.inside in let homes = l.homes.items in let home = c.self.invariant.0 in let out = c.waiting-out in
    let none : out.result ≡ 0 = let few = c.if-out-gt0.false in omega (arith, few) in let asks : 0 < length c.args.asked.now = search rules in
    let fits : length c.args.asked.now ≤ length l.sessions = let le = c.if-asked-len.false in let is = c.len.ensures.count in omega (arith, le, is) in let some : 0 < length homes = let count = home.count in omega (arith, asks, fits, count) in
    let h = c.index-2.result.now in let is : arc_value h.store ≡ c.deref-2.result.now = search rules in
    let there : h ≡ get_or homes 0 h = search rules in let first = first_at homes h some there in
    let store = c.deref-2.result.now in
    record {
      tells = tells_begun homes l.sessions c.args.self.now home c.self.view_is c.args.asked.now c.args.outcomes.now out.result out.ensures.waiting out.ensures.few c.begin.new.sessions c.begin.new.outcomes c.begin.result h first store is c.begin.ensures.sessions
          none asks fits c.if-outcomes-asked.false c.begin.ensures.others c.begin.ensures.tells;
    }

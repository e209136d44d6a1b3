use Rattle.std.proofs.Common.{rules, ◌≡◌, sym, ap, subst, ◌∙◌, length}
use Rattle.std.specs.Arc.{arc_value}
use Rattle.store.specs.Opening.{AreOf}
use Rattle.store.specs.Sessions.{IsOf, StoreView}
use Rattle.store_steps.specs.Shelving.{sessions_of}
use Rattle.host_calls.specs.Leaving.{sessions_back}
use Rattle.store.proofs.Export.{at_of_all}
use Rattle.host_calls.proofs.Gathered.{back_whole}
use Rattle.host_calls.proofs.closing.end_store.Goals as goal

pub close-requires : goal.close-requires
close-requires c =
    let is : c.in-Ok.store ≡ arc_value c.args.pool.store = search rules in
    let places : c.into_parts-store.result.1 ≡ c.args.pool.places = search rules in
    let all = c.gather-sessions.ensures.own (arc_value c.args.pool.store) (search rules) in
    record { own = subst (λ (s : StoreView). AreOf s c.gather-sessions.result.items) (sym is) (λ a s at. at_of_all (IsOf (arc_value c.args.pool.store)) c.gather-sessions.result.items all a s at) }

pub unreachable-requires : goal.unreachable-requires
unreachable-requires c =
    let is : c.in-Ok.store ≡ arc_value c.args.pool.store = search rules in
    let places : c.into_parts-store.result.1 ≡ c.args.pool.places = search rules in
    let stores : c.into_parts-store.result.0 ≡ c.args.pool.store = search rules in
    let order = c.into_parts-store.ensures.order in
    let store : arc_value c.into_parts-store.result.0 ≡ arc_value c.args.pool.store = ap arc_value stores in
    let count = ap length (ap (λ v. v.items) (sym places)) ∙ (order.count ∙ ap (λ (s : StoreView). sessions_of s.config) store) in
    let gathered : c.gather-sessions.result.items ≡ sessions_back c.args.pool.places.items = search rules in
    c.in-Err.ensures.whole (ap length gathered ∙ (back_whole c.args.pool.places.items c.requires.whole ∙ (count ∙ ap (λ (s : StoreView). sessions_of s.config) (sym is))))

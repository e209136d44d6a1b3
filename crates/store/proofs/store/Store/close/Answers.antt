use Rattle.std.proofs.Common.{rules, ◌≡◌, ◌+◌, ◌<◌, length, take, sym, ap, ◌∙◌, subst}
use Rattle.ownlock.specs.Seats.{HoldsNone}
use Rattle.loader.specs.CatalogueView.{IsCatalogue}
use Rattle.store.specs.Opening.{AreLeft, AreOf, IsClosed, IsLogFor, closed_view, log_in}
use Rattle.store.specs.Sessions.{StoreView}
use Rattle.store_steps.specs.Shelving.{sessions_of, store_opening}
use Rattle.store.proofs.Closing.{all_notes, are_left, is_closed, left_of, log_for, some_sessions}
use Rattle.store.proofs.Linear.{closes_explained}
use Rattle.store.proofs.Joined.{back_holds_none, back_long}
use Rattle.store.proofs.store.Store.close.Goals as goal

pub close-values-requires-clause-all : goal.close-values-requires-clause-all
close-values-requires-clause-all c =
    let long : length c.args.sessions.items ≡ sessions_of c.self.inside.setup.config = search rules in
    ap length c.join_seats-seat.ensures.joined ∙ (back_long c.args.sessions.items ∙ (long ∙ sym (all_notes c.self.inside.shelf.setup c.self.inside.setup c.self.invariant.0)))

pub close-values-requires-clause-idle : goal.close-values-requires-clause-idle
close-values-requires-clause-idle c = subst (λ z. HoldsNone z) (sym c.join_seats-seat.ensures.joined) (back_holds_none c.args.sessions.items)

pub new-requires : goal.new-requires
new-requires c =
    let store : StoreView = record { id = c.self.inside.shelf.id; config = c.self.inside.setup.config; catalogue = c.self.inside.setup.catalogue } in
    let ss = c.args.sessions.items in
    let long : length ss ≡ sessions_of c.self.inside.setup.config = search rules in
    let some : 0 < length ss = subst (λ n. 0 < n) (sym long) (some_sessions c.self.inside.setup.config c.self.invariant.2) in
    let own : AreOf store ss = subst (λ z. AreOf z ss) (sym c.self.view_is) c.requires.own in
    let a = c.close-values.ensures.values in
    let slots = c.close-values.result.items in
    let p = left_of store ss c.join_seats-seat.result.sessions _ slots own some c.join_seats-seat.ensures.joined c.join_seats-seat.ensures.idle a (c.close-values.ensures.places ∙ c.self.invariant.1) in
    record {
      left = subst AreLeft (sym c.truncate.ensures.items) (are_left a.0 store.config.nodes (take (1 + store.config.nodes) slots) p);
      log =
          subst (λ z. IsLogFor store.catalogue (log_in z)) (sym c.truncate.ensures.items)
          (log_for store ss c.join_seats-seat.result.sessions _ slots own some c.join_seats-seat.ensures.joined c.join_seats-seat.ensures.idle a (take (1 + store.config.nodes) slots) p);
    }

pub returns-clause-closed : goal.returns-clause-closed
returns-clause-closed c =
    let store : StoreView = record { id = c.self.inside.shelf.id; config = c.self.inside.setup.config; catalogue = c.self.inside.setup.catalogue } in
    let ss = c.args.sessions.items in
    let long : length ss ≡ sessions_of c.self.inside.setup.config = search rules in
    let some : 0 < length ss = subst (λ n. 0 < n) (sym long) (some_sessions c.self.inside.setup.config c.self.invariant.2) in
    let own : AreOf store ss = subst (λ z. AreOf z ss) (sym c.self.view_is) c.requires.own in
    let a = c.close-values.ensures.values in
    let slots = c.close-values.result.items in
    let view = c.join_seats-seat.result.sessions in
    let known = c.join_seats-seat.ensures.joined in
    let idle = c.join_seats-seat.ensures.idle in
    let p = left_of store ss view _ slots own some known idle a (c.close-values.ensures.places ∙ c.self.invariant.1) in
    let closed = is_closed store ss view _ slots own some known idle a (ap store_opening c.self.invariant.0) (take (1 + store.config.nodes) slots) p in
    subst (λ z. IsClosed z ss c.new.result) c.self.view_is (subst (λ z. IsClosed store ss z) (ap (closed_view store.catalogue) (sym c.truncate.ensures.items) ∙ sym c.new.ensures.closed) closed)

pub returns-clause-explained : goal.returns-clause-explained
unfolding returns-clause-closed
returns-clause-explained c =
    let whole = subst (λ (z : StoreView). IsCatalogue z.catalogue) c.self.view_is c.places-places.ensures.whole in
    closes_explained c.typable_programs_run.ensures _ _ c.new.result whole (returns-clause-closed c)

pub returns-clause-linear : goal.returns-clause-linear
unfolding returns-clause-explained
returns-clause-linear c = let e = returns-clause-explained c in (e.is.progress.history, e.linear)

use Rattle.std.proofs.Common.{rules, ◌≡◌, length, sym, ap, subst, ◌∙◌, arith}
use Rattle.std.specs.Arc.{arc_value}
use Rattle.std.proofs.lemmas.List.{length-set}
use Rattle.std.proofs.lemmas.List.Elements.{All-pop}
use Rattle.store_steps.specs.Shelving.{sessions_of}
use Rattle.store_steps.specs.Views.{SessionView}
use Rattle.store.specs.Sessions.{IsOf, StoreView, fresh_session}
use Rattle.host_calls.specs.Openings.{IsSeat}
use Rattle.host_calls.proofs.Seats.{in_order, popped, put_there, seat_of}
use Rattle.host_calls.proofs.opening.make_pool.Goals as goal

pub loop-session-preserved : goal.loop-session-preserved
loop-session-preserved c =
    let i = c.loop-session.invariant in
    let s = arc_value c.in-Ok.store in
    let xs = c.loop-session.sessions.items in
    let ys = c.pop.new.self.items in
    let m = c.len-place.result in
    let p = popped s xs ys c.in-Some.session c.in-Some.ensures.items i.fresh in
    let at : m ≡ length ys = search rules in
    let more = p.more in
    let few = i.few in
    let places = c.loop-session.places.items in
    let seat = c.in-Ok-seat.ensures.seat ∙ ap (seat_of s m) (p.last ∙ ap (fresh_session s.id s.config s.catalogue) (sym at)) in
    record {
      own = (All-pop (IsOf s) _ ys c.pop.result c.pop.ensures.items i.own).0;
      fresh = p.rest;
      room = ap length c.put.ensures.put ∙ (length-set places m _ ∙ i.room);
      few = omega (arith, more, few);
      seats = λ k from below. subst (λ z. IsSeat s z k) (sym c.put.ensures.put)
          (put_there s places m (length c.args.sessions.items) c.in-Ok-seat.attached i.room (omega (arith, more, few, at)) seat (λ j later under. i.seats j (omega (arith, later, more, at)) under) k (omega (arith, from, at)) below);
    }

pub seat-requires-clause-placed : goal.seat-requires-clause-placed
seat-requires-clause-placed c =
    let i = c.loop-session.invariant in
    let s = arc_value c.in-Ok.store in
    let xs = c.loop-session.sessions.items in
    let ys = c.pop.new.self.items in
    let p = popped s xs ys c.in-Some.session c.in-Some.ensures.items i.fresh in
    let at : c.len-place.result ≡ length ys = search rules in
    let same : s ≡ c.args.store = search rules in
    let more = p.more in
    let few = i.few in
    let all = subst (λ (z : StoreView). length c.args.sessions.items ≡ sessions_of z.config) (sym same) c.requires.all in
    record { number = ap (λ (z : SessionView). z.session) p.last ∙ sym at; below = omega (arith, more, few, at, all) }

pub new-requires-2 : goal.new-requires-2
new-requires-2 c =
    let i = c.loop-session.invariant in
    let s = arc_value c.in-Ok.store in
    let none : length c.loop-session.sessions.items ≡ 0 = search rules in
    let same : s ≡ c.args.store = search rules in
    let all = subst (λ (z : StoreView). length c.args.sessions.items ≡ sessions_of z.config) (sym same) c.requires.all in
    let room = i.room in
    record { order = in_order s c.loop-session.places.items (room ∙ all) (λ k lt. i.seats k (omega (arith, none)) (omega (arith, lt, room))) }

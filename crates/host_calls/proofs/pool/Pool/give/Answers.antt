use Rattle.std.proofs.Common.{rules, ◌≡◌, ◌<◌, length, set, sym, ap, ◌∙◌, subst, arith, None, Some}
use Rattle.std.specs.Arc.{arc_value}
use Rattle.std.proofs.lemmas.List.{get_or_default, length-set}
use Rattle.std.proofs.lemmas.Option.{none-some, same_Some}
use Rattle.store_steps.specs.Shelving.{sessions_of}
use Rattle.store_steps.specs.Views.{SessionView}
use Rattle.store.specs.Sessions.{StoreView}
use Rattle.host_calls.specs.Seating.{AreInOrder}
use Rattle.host_calls.specs.Views.{AttachedView}
use Rattle.host_calls.proofs.Seats.{put_at}
use Rattle.host_calls.proofs.pool.Pool.give.Goals as goal

pub unreachable-requires : goal.unreachable-requires
unreachable-requires c =
    let places = c.self.inside.seats.places.items in
    let k = c.place-place.result in
    let own : c.args.attached.store ≡ arc_value c.self.inside.seats.store = search rules in
    let count = c.self.invariant.count in
    let below = subst (λ (z : StoreView). k < sessions_of z.config) own c.place-place.ensures.placed.below in
    let same = get_or_default places k None c.index_mut.result.now (omega (arith, count, below)) in
    let at = same ∙ (sym c.index_mut.ensures.value ∙ (sym c.take.ensures.value ∙ c.in-Some.is)) in
    let there = c.place-place-in-Some.ensures.place ∙ c.self.invariant.placed c.place-place.result c.in-Some.other at in
    let one = ap (λ (s : SessionView). s.session) c.into_session.ensures.session ∙ c.place-place.ensures.placed.number in
    let other = ap (λ (s : SessionView). s.session) c.into_session-in-Some.ensures.session ∙ (c.place-place-in-Some.ensures.placed.number ∙ there) in
    c.stand-both.ensures.apart (one ∙ sym other)

pub invariant_of-self : goal.invariant_of-self
invariant_of-self c =
    let seats = c.self.inside.seats in
    let store = arc_value seats.store in
    let k = c.place-place.result in
    let a = c.args.attached in
    let own : a.store ≡ store = search rules in
    let count = c.self.invariant.count in
    let below = subst (λ (z : StoreView). k < sessions_of z.config) own c.place-place.ensures.placed.below in
    let inside : k < length seats.places.items = omega (arith, count, below) in
    let empty = put_at store seats.places.items k c.self.invariant inside None tt tt (λ a e. absurd (none-some a e)) in
    let long = length-set seats.places.items k None in
    let full = put_at store (set seats.places.items k None) k empty (omega (arith, long, inside)) (Some a) own c.requires.idle (λ b e. ap (λ (z : AttachedView). z.place) (sym (same_Some a b e)) ∙ sym c.place-place.ensures.place) in
    subst (λ z. AreInOrder store (set (set seats.places.items k z) k (Some a))) (sym c.take.ensures.after) full

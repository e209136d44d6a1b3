use Rattle.std.proofs.Common.{◌<◌, length, set, sym, subst, None}
use Rattle.std.specs.Arc.{arc_value}
use Rattle.std.proofs.lemmas.Option.{none-some}
use Rattle.host_calls.specs.declared.pool.Seats.{Seats}
use Rattle.host_calls.specs.Seating.{AreInOrder}
use Rattle.host_calls.proofs.Seats.{put_at}
use Rattle.host_calls.proofs.pool.Pool.take_at.Goals as goal

pub invariant_of-self : goal.invariant_of-self
invariant_of-self c =
    let seats = c.self.inside.seats in
    let store = arc_value seats.store in
    let inside = subst (λ (z : Seats). c.args.place < length z.places.items) (sym c.self.view_is) c.requires.there in
    let empty = put_at store seats.places.items c.args.place c.self.invariant inside None tt tt (λ a e. absurd (none-some a e)) in
    subst (λ z. AreInOrder store (set seats.places.items c.args.place z)) (sym c.take.ensures.after) empty

use Rattle.std.proofs.Common.{ap}
use Rattle.ownlock.proofs.Seats.{steps_as}
use Rattle.ownlock.proofs.shelf.Shelf.let_go.Goals as goal

pub free_line-requires-clause-by : goal.free_line-requires-clause-by
free_line-requires-clause-by g c =
    let m = c.requires.idle in (
      m.0,
      steps_as c.seat.inside.pass.me _ m.0 (ap (λ z. z.sessions) c.seat.view_is) m.1 c.seat.invariant,
      m.2,
      c.requires.by.1 m.0 m.1,
    )

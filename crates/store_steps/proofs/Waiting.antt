-- Who waits holds nothing.
use Rattle.std.proofs.Common.{◌≡◌, [], ◌∙◌, ap, subst, sym}
use Rattle.ownlock.specs.Seats.{At, HoldsNone, IsSession}
use Rattle.ownlock.proofs.Export.{at_only}
use Rattle.store_steps.specs.Knowing.{Learns}
use Rattle.store_steps.specs.Standing.{SessionKnown, StoreSeat}
use Rattle.store_steps.specs.Trying.{IsStill}

-- a seat of one session that holds nothing
pub one_holds_none : (s : StoreSeat) (k : SessionKnown) → IsSession s k → k.held ≡ [] → HoldsNone s.sessions
one_holds_none s k is none i m at = let only = at_only k m i (subst (λ z. At i m z) is at) in ap (λ (z : SessionKnown). z.held) (sym only.1) ∙ none

-- a session that has only tried, once more
pub still_holds_none : (before old new : StoreSeat) (k : SessionKnown) → IsSession before k → Learns before old IsStill → Learns old new IsStill → HoldsNone new.sessions
still_holds_none before old new k is tried again =
    let m = tried k is in
    let t = again m.0 m.1 in
    one_holds_none new t.0 t.1 t.2.held

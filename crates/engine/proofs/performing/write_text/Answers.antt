use Rattle.std.proofs.Common.{inl, inr, refl}
use Rattle.engine.proofs.performing.write_text.Goals as goal

pub returns-in-Ok : goal.returns-in-Ok
returns-in-Ok g c = record { sent = inl (refl, c.in-Ok.ensures.sent); failed = inl refl; spared = λ other. c.in-Ok.ensures.spared }

pub returns-in-Err : goal.returns-in-Err
returns-in-Err g c = record { sent = inr (refl, c.in-Err.ensures.stopped); failed = inr (refl, c.in-Err.ensures.failed); spared = λ other. absurd (other refl) }

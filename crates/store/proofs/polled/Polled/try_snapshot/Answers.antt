use Rattle.std.proofs.Common.{refl, rules}
use Rattle.std.specs.Prelude.{IfSome}
use Rattle.store.specs.Looks.{IsSight, IsTaken}
use Rattle.store.proofs.Looked.{lent_to}
use Rattle.store.proofs.polled.Polled.try_snapshot.Goals as goal

pub returns-clause-told : goal.returns-clause-told
returns-clause-told c = lent_to (λ into. IfSome c.in-Ok.point (IsSight (IsTaken into) (λ point. point) c.args.self.now c.try_see.new.self)) c.try_see.new.look.into.now _ (search rules) (c.in-Ok.ensures.told refl)

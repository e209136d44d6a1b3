use Rattle.std.proofs.Common.{refl, rules}
use Rattle.store.specs.Looks.{IsSight, IsTaken}
use Rattle.store.proofs.Looked.{lent_to}
use Rattle.store.proofs.session.Session.snapshot.Goals as goal

pub returns-clause-told : goal.returns-clause-told
returns-clause-told g c = lent_to (λ into. IsSight (IsTaken into) (λ point. point) c.args.self.now c.see.new.self c.in-Ok.point) c.see.new.look.into.now _ (search rules) (c.in-Ok.ensures.told refl)

use Rattle.std.proofs.Common.{rules}
use Rattle.store_steps.specs.declared.getting.Lookup.{Lookup}
use Rattle.store.specs.Looks.{HasValue, IsSight, TellsTried}
use Rattle.store.proofs.Looked.{lent_to}
use Rattle.store.proofs.polled.Polled.try_get.Goals as goal

pub returns-clause-told : goal.returns-clause-told
returns-clause-told c none = lent_to (λ value. TellsTried c.try_see.result (IsSight (HasValue c.args.of c.args.value.now value) (λ (l : Lookup). l.point) c.args.self.now c.try_see.new.self)) c.try_see.new.look.value.now _ (search rules) (c.try_see.ensures.told none)

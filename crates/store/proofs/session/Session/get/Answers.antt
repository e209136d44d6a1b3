use Rattle.std.proofs.Common.{rules}
use Rattle.store_steps.specs.declared.getting.Lookup.{Lookup}
use Rattle.store.specs.Looks.{HasValue, TellsSight}
use Rattle.store.proofs.Looked.{lent_to}
use Rattle.store.proofs.session.Session.get.Goals as goal

pub returns-clause-told : goal.returns-clause-told
returns-clause-told g c none = lent_to (λ value. TellsSight (HasValue c.args.of c.args.value.now value) (λ (l : Lookup). l.point) c.args.self.now c.see.new.self c.see.result) c.see.new.look.value.now _ (search rules) (c.see.ensures.told none)

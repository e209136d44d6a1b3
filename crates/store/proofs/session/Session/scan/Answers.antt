use Rattle.std.proofs.Common.{rules}
use Rattle.store_steps.specs.declared.scanning.Scan.{Scan}
use Rattle.store.specs.Looks.{HasPage, TellsSight}
use Rattle.store.proofs.Looked.{lent_both}
use Rattle.store.proofs.session.Session.scan.Goals as goal

pub returns-clause-told : goal.returns-clause-told
returns-clause-told g c none =
    let look = c.see.new.look in
    lent_both (λ keys values. TellsSight (HasPage c.args.begin c.args.keys.now c.args.values.now keys values) (λ (s : Scan). s.point) c.args.self.now c.see.new.self c.see.result) look.keys.now _ look.values.now _ (search rules) (search rules) (c.see.ensures.told none)

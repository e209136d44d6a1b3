use Rattle.std.proofs.Common.{rules}
use Rattle.store_steps.specs.declared.scanning.Scan.{Scan}
use Rattle.store.specs.Looks.{HasPage, IsSight, TellsTried}
use Rattle.store.proofs.Looked.{lent_both}
use Rattle.store.proofs.polled.Polled.try_scan.Goals as goal

pub returns-clause-told : goal.returns-clause-told
returns-clause-told c none =
    let look = c.try_see.new.look in
    lent_both (λ keys values. TellsTried c.try_see.result (IsSight (HasPage c.args.begin c.args.keys.now c.args.values.now keys values) (λ (s : Scan). s.point) c.args.self.now c.try_see.new.self)) look.keys.now _ look.values.now _ (search rules) (search rules) (c.try_see.ensures.told none)

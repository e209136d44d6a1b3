use Rattle.std.proofs.Common.{[], ◌∷◌, refl, subst, arith}
use Rattle.ownlock.specs.Invariant.{StandsThere}
use Rattle.store_steps.specs.declared.values.Setup.{Setup}
use Rattle.store_steps.specs.Shelving.{store_opening, store_rules}
use Rattle.store.specs.Linear.{AreExplained}
use Rattle.store.specs.Sessions.{StoreView, known_of}
use Rattle.store.proofs.Linear.{stands_explained}
use Rattle.store.proofs.store.Store.stand.Goals as goal

pub returns-clause-explained : goal.returns-clause-explained
returns-clause-explained c =
    let store : StoreView = record { id = c.self.inside.shelf.id; config = c.self.inside.setup.config; catalogue = c.self.inside.setup.catalogue } in
    let view = known_of c.args.one ∷ known_of c.args.other ∷ [] in
    let stands = subst (λ (z : Setup). StandsThere store_rules (store_opening z) view) c.self.invariant.0 c.stand_beside.ensures.stands in
    subst (λ z. AreExplained z (c.args.one ∷ c.args.other ∷ [])) c.self.view_is (stands_explained c.typable_programs_run.ensures store c.args.one c.args.other c.places-places.ensures.whole stands)

pub returns-clause-apart : goal.returns-clause-apart
returns-clause-apart c same =
    let t = c.stand_beside.ensures.stands in
    let never = t.1.distinct t.2.0 0 1 _ (known_of c.args.one) (known_of c.args.other) t.2.1 refl refl same in
    absurd (omega (arith, never))

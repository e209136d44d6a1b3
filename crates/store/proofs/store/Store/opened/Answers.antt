use Rattle.std.proofs.Common.{sym, ap, ◌∙◌, refl, subst, length}
use Rattle.replica.specs.StoreMeaning.{store_meaning}
use Rattle.accounts.proofs.Export.{opens}
use Rattle.store.specs.Linear.{AreNew}
use Rattle.store.specs.Opening.{AreOf}
use Rattle.store.specs.Sessions.{StoreView}
use Rattle.store_steps.specs.Shelving.{sessions_of}
use Rattle.store.proofs.Fresh.{fresh_are_new, fresh_long, fresh_of}
use Rattle.store.proofs.store.Store.opened.Goals as goal

pub open-requires-clause-accounts : goal.open-requires-clause-accounts
open-requires-clause-accounts c = (opens store_meaning c.args.setup.config c.args.setup.catalogue (sessions_of c.args.setup.config)).0

pub returns-clause-count : goal.returns-clause-count
returns-clause-count c = ap length c.push_sessions.ensures.sessions ∙ fresh_long c.args.setup.config c.args.setup.catalogue _ 0 (sessions_of c.args.setup.config)

pub returns-clause-own : goal.returns-clause-own
returns-clause-own c =
    let store : StoreView = record { id = c.in-Ok.shelf.id; config = c.args.setup.config; catalogue = c.args.setup.catalogue } in
    subst (λ z. AreOf store z) (sym c.push_sessions.ensures.sessions) (fresh_of c.args.setup.config c.args.setup.catalogue store 0 (sessions_of c.args.setup.config) refl refl)

pub returns-clause-new : goal.returns-clause-new
returns-clause-new c = subst AreNew (sym c.push_sessions.ensures.sessions)
    (fresh_are_new c.args.setup.config c.args.setup.catalogue _ 0 (sessions_of c.args.setup.config))

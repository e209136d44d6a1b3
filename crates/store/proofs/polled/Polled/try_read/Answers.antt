use Rattle.std.proofs.Common.{◌≡◌, Option, Some, None, Result, Ok, Err}
use Rattle.oplog.specs.Operations.{Operation}
use Rattle.readpath.specs.declared.reading.ReadAnswer.{ReadAnswer}
use Rattle.replica.specs.declared.refusals.StoreRefused.{StoreRefused}
use Rattle.accounts.specs.Told.{read_with}
use Rattle.store_steps.specs.Views.{SessionView}
use Rattle.store.specs.Linear.{AddsTry}
use Rattle.store.specs.Looks.{IfUnanswered, TellsTried, TriedGoes}
use Rattle.store.specs.Sessions.{SessionGoesOn, StoreView}
use Rattle.store.proofs.Linear.{adds_try}
use Rattle.store.proofs.polled.Polled.try_read.Goals as goal

by_result : (store : StoreView) (old new : SessionView) (op : Operation) → SessionGoesOn store old new
    → (P : ReadAnswer → Type 0) → (r : Result (Option ReadAnswer) StoreRefused) → TellsTried r P
    → TriedGoes r (λ a. new.note ≡ read_with old.note op a.point a.reply) → IfUnanswered r (new.note ≡ old.note)
    → AddsTry old new op r
by_result store old new op goes P (Ok None) told note still = adds_try store old new op goes None still
by_result store old new op goes P (Ok (Some a)) told note still = adds_try store old new op goes (Some a) note
by_result store old new op goes P (Err e) told note still = told

pub returns-clause-adds : goal.returns-clause-adds
returns-clause-adds c may = by_result c.args.store.now c.args.self.now _ _ c.try_see.ensures.session _ c.try_see.result (c.try_see.ensures.told may) c.try_see.ensures.note c.try_see.ensures.still

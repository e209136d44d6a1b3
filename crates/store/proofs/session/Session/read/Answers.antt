use Rattle.std.proofs.Common.{◌≡◌, Result, Ok, Err}
use Rattle.std.specs.Prelude.{IfOk, MatchResult}
use Rattle.oplog.specs.Operations.{Operation}
use Rattle.readpath.specs.declared.reading.ReadAnswer.{ReadAnswer}
use Rattle.replica.specs.declared.refusals.StoreRefused.{StoreRefused}
use Rattle.accounts.specs.Told.{read_with}
use Rattle.store_steps.specs.Views.{SessionView}
use Rattle.store.specs.Linear.{AddsRead}
use Rattle.store.specs.Sessions.{SessionGoesOn, StoreView}
use Rattle.store.proofs.Linear.{adds_read}
use Rattle.store.proofs.session.Session.read.Goals as goal

by_result : (store : StoreView) (old new : SessionView) (op : Operation) → SessionGoesOn store old new
    → (P : ReadAnswer → Type 0) → (r : Result ReadAnswer StoreRefused) → MatchResult r P (λ _. ⊥)
    → IfOk r (λ a. new.note ≡ read_with old.note op a.point a.reply) → AddsRead old new op r
by_result store old new op goes P (Ok a) told note = adds_read store old new op goes a note
by_result store old new op goes P (Err e) told note = told

pub returns-clause-adds : goal.returns-clause-adds
returns-clause-adds g c may = by_result c.args.store.now c.args.self.now _ _ c.see.ensures.session _ c.see.result (c.see.ensures.told may) c.see.ensures.note

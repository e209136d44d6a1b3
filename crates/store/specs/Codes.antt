-- How stores and sessions are told apart, which a model asks for. No public clause cites this module.
use Rattle.std.specs.Prelude.{ℕ, List, refl}
use Rattle.std.specs.Coded.{Coded, code_by, coded×, coded_list, coded_ℕ}
use Rattle.atomic_table.specs.Seated.{table_id_coded}
use Rattle.ownlock.specs.Seats.{ShelfId}
use Rattle.loader.specs.CatalogueView.{CatalogueView}
use Rattle.loader.specs.Codes.{catalogue_code}
use Rattle.oplog.specs.declared.configuration.Sizes.{Sizes}
use Rattle.oplog.specs.contracts.configuration.Sizes as sizes_row
use Rattle.oplog.specs.History.{History}
use Rattle.oplog.specs.Codes.{history_code}
use Rattle.accounts.specs.declared.sessions.Progress.{Progress}
use Rattle.accounts.specs.declared.sessions.SessionNote.{SessionNote}
use Rattle.accounts.specs.contracts.sessions.SessionNote as note_row
use Rattle.ownlock.specs.declared.known.SharedStep.{SharedStep}
use Rattle.ownlock.specs.declared.known.ShelfStep.{ShelfStep}
use Rattle.ownlock.specs.contracts.known.ShelfStep as step_row
use Rattle.store_steps.specs.declared.values.Value.{Value}
use Rattle.store_steps.specs.contracts.values.Value as value_row
use Rattle.store_steps.specs.Views.{SessionView}
use Rattle.store.specs.Sessions.{StoreView}

abbrev pub store_code : Coded StoreView
store_code =
    code_by (ShelfId × (Sizes × CatalogueView)) (coded× table_id_coded (coded× sizes_row.the_row.coded catalogue_code))
    (λ s. (s.id, (s.config, s.catalogue))) (λ p. record { id = p.0; config = p.1.0; catalogue = p.1.1 }) (λ _. refl)

abbrev pub progress_code : Coded (Progress CatalogueView)
progress_code =
    code_by (Sizes × (CatalogueView × (History × ℕ))) (coded× sizes_row.the_row.coded (coded× catalogue_code (coded× history_code coded_ℕ)))
    (λ l. (l.config, (l.catalogue, (l.history, l.completed)))) (λ p. record { config = p.0; catalogue = p.1.0; history = p.1.1.0; completed = p.1.1.1 }) (λ _. refl)

abbrev pub step_code : Coded (ShelfStep Value)
step_code = (step_row.the_row value_row.the_row).coded

abbrev pub shared_code : Coded (SharedStep (Progress CatalogueView) SessionNote Value)
shared_code =
    code_by (ℕ × (ShelfStep Value × (Progress CatalogueView × (SessionNote × SessionNote))))
    (coded× coded_ℕ (coded× step_code (coded× progress_code (coded× note_row.the_row.coded note_row.the_row.coded))))
    (λ e. (e.session, (e.step, (e.progress, (e.before, e.note)))))
    (λ p. record { session = p.0; step = p.1.0; progress = p.1.1.0; before = p.1.1.1.0; note = p.1.1.1.1 }) (λ _. refl)

abbrev pub session_code : Coded SessionView
session_code =
    code_by (ShelfId × (ℕ × (Progress CatalogueView × (SessionNote × (List (ShelfStep Value) × List (SharedStep (Progress CatalogueView) SessionNote Value))))))
    (coded× table_id_coded (coded× coded_ℕ (coded× progress_code (coded× note_row.the_row.coded (coded× (coded_list step_code) (coded_list shared_code))))))
    (λ s. (s.shelf, (s.session, (s.progress, (s.note, (s.steps, s.run))))))
    (λ p. record { shelf = p.0; session = p.1.0; progress = p.1.1.0; note = p.1.1.1.0; steps = p.1.1.1.1.0; run = p.1.1.1.1.1 }) (λ _. refl)

-- How attached sessions are told apart, which a model asks for. No public clause cites this module.
use Rattle.std.specs.Prelude.{ℕ, refl}
use Rattle.std.specs.Coded.{Coded, code_by, coded×, coded_ℕ}
use Rattle.store.specs.Codes.{session_code, store_code}
use Rattle.store_steps.specs.Views.{SessionView}
use Rattle.store.specs.Sessions.{StoreView}
use Rattle.host_calls.specs.Views.{AttachedView}

abbrev pub attached_code : Coded AttachedView
attached_code =
    code_by (StoreView × (ℕ × SessionView)) (coded× store_code (coded× coded_ℕ session_code))
    (λ a. (a.store, (a.place, a.session))) (λ p. record { store = p.0; place = p.1.0; session = p.1.1 }) (λ _. refl)

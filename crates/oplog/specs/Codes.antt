-- How values of the log are told apart, which a model asks for. No public clause cites this module.
use Rattle.std.specs.Prelude.{ℕ, refl}
use Rattle.std.specs.Coded.{Coded, code_by, coded×, coded_list, coded_ℕ}
use Rattle.loader.specs.StoreState.{StoreState}
use Rattle.loader.specs.Codes.{state_code}
use Rattle.oplog.specs.contracts.records.Record as row
use Rattle.oplog.specs.History.{History}
use Rattle.oplog.specs.Logs.{Log}

abbrev pub history_code : Coded History
history_code = coded_list row.the_row.coded

abbrev pub log_code : Coded Log
log_code =
    code_by (ℕ × (StoreState × (History × (ℕ × (ℕ × (ℕ × ℕ)))))) (coded× coded_ℕ (coded× state_code (coded× history_code (coded× coded_ℕ (coded× coded_ℕ (coded× coded_ℕ coded_ℕ))))))
    (λ g. (g.base, (g.base_state, (g.records, (g.done, (g.window, (g.long, g.limit)))))))
    (λ p. record { base = p.0; base_state = p.1.0; records = p.1.1.0; done = p.1.1.1.0; window = p.1.1.1.1.0; long = p.1.1.1.1.1.0; limit = p.1.1.1.1.1.1 })
    (λ _. refl)

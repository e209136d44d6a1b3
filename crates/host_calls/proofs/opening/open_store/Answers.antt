use Rattle.store.specs.Sessions.{IsOf}
use Rattle.store.proofs.Export.{all_of_at}
use Rattle.host_calls.specs.Openings.{state_in}
use Rattle.host_calls.proofs.opening.open_store.Goals as goal

pub returns-in-Ok-store_on-clause-own : goal.returns-in-Ok-store_on-clause-own
returns-in-Ok-store_on-clause-own c = all_of_at (IsOf c.in-Ok-store_on.opened.0) c.in-Ok-store_on.opened.1.items c.in-Ok-store_on.ensures.own

pub returns-in-Err-clause-opened : goal.returns-in-Err-clause-opened
returns-in-Err-clause-opened c = c.in-Err.ensures.loaded (state_in c.args.state)

use Rattle.store_laws.proofs.RunEvents.{answers_are_in_run, between_is_explained, called_later, each_step_stands, known_events_begin, notes_tell, runs_are_explained, trace_goes_on, traces_are_theirs}
use Rattle.store_laws.proofs.threads.runs_are_explained.Goals as goal

pub returns : goal.returns
returns c = record { runs = runs_are_explained; told = answers_are_in_run; goes_on = trace_goes_on; stands = each_step_stands; later = called_later; between = between_is_explained; known = known_events_begin; own = notes_tell; theirs = traces_are_theirs }

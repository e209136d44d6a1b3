-- The lemmas that other crates may cite.
pub use Rattle.store_laws.proofs.RunEvents.{answers_are_in_run, notes_tell, runs_are_explained, since_begins, trace_goes_on, traces_are_theirs}

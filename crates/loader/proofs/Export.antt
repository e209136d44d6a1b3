-- The lemmas that other crates may cite.
pub use Rattle.loader.proofs.Entries.{entry_from}
pub use Rattle.loader.proofs.Installing.{installed_is_accepted, installed_reads, one_more_installed}
pub use Rattle.loader.proofs.Openings.{opening_is_state}
pub use Rattle.loader.proofs.Outcomes.{loaded_is_offered, number_behind, numbered, ok_from}
pub use Rattle.loader.proofs.Passed.{passes_stay}
pub use Rattle.loader.proofs.Respelled.{mode_to, no_space_from, no_space_in_mode, no_space_in_name, no_space_in_number}
pub use Rattle.loader.proofs.ShapesFit.{shapes_are_ok, shapes_are_within}
pub use Rattle.loader.proofs.Spelled.{mode_from, spelled, within}
pub use Rattle.loader.proofs.States.{opened_is_state, state_sizes}
pub use Rattle.loader.proofs.Steps.{after_map, after_program, is_catalogue, nothing_partial}
pub use Rattle.loader.proofs.WordLemmas.{word_is}

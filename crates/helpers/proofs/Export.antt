-- The lemmas that other crates may cite.
pub use Rattle.helpers.proofs.Answers.{inserted, value_after, value_elsewhere, value_there}
pub use Rattle.helpers.proofs.Kept.{entries_kept, insert_keeps, keep_shapes}
pub use Rattle.helpers.proofs.Numbered.{only_number}
pub use Rattle.helpers.proofs.Places.{get_set_same, map_set, option_map_some}

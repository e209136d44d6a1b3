-- The lemmas that other crates may cite.
pub use Rattle.example_calls.proofs.Told.{answered_as, are_explained, noted_by, sees_it}

-- The lemmas that other crates may cite.
pub use Rattle.scripts.proofs.Fields.{digits_of_number}
pub use Rattle.scripts.proofs.SpelledTold.{respelled, spelled}

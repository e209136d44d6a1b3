-- The lemmas that other crates may cite.
pub use Rattle.promise.proofs.Explained.{explains, leaves}

-- The lemmas that other crates may cite.
pub use Rattle.settlement.proofs.AllNodes.{node_settles}

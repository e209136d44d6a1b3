-- The lemmas that other crates may cite.
pub use Rattle.keyindex.proofs.Callers.{key_listed, listed_key, listed_once, many_keys, not_listed}
pub use Rattle.keyindex.proofs.Found.{key_is, key_length}
pub use Rattle.keyindex.proofs.Parts.{Wrote, byte_at, key_here, key_there}

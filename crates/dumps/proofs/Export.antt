-- The lemmas that other crates may cite.
pub use Rattle.dumps.proofs.LoadedState.{loaded_is_state}
pub use Rattle.dumps.proofs.Reread.{dump_is_read}
pub use Rattle.dumps.proofs.SpelledLines.{digits_few, word_few}

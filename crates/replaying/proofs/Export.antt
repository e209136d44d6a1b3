-- The lemmas that other crates may cite.
pub use Rattle.replaying.proofs.ReplaysOfLines.{agreeing_lines_are_runs, has_operation, if_agrees, is_told}

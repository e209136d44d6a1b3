-- The lemmas that other crates may cite.
pub use Rattle.machine.proofs.Export.{get_inside as get_some}
pub use Rattle.node.proofs.Answers.{answers_ended, answers_placed}
pub use Rattle.node.proofs.Going.{goes_on}
pub use Rattle.node.proofs.Keeping.{after_count, after_first, keeps_after}

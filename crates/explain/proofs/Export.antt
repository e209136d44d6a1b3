-- The lemmas that other crates may cite.
pub use Rattle.explain.proofs.Judged.{a_file, a_program, digits, no_digits, no_program}
pub use Rattle.explain.proofs.Manifests.{nothing_within}
pub use Rattle.explain.proofs.MapLines.{no_truth, too_many}
pub use Rattle.explain.proofs.Pieces.{none_left}

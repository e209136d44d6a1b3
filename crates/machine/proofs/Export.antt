-- The lemmas that other crates may cite.
pub use Rattle.machine.proofs.Bytes.{and_then_some}
pub use Rattle.machine.proofs.EffectsOfRuns.{are_runs, runs_are, typable_takes_effect}
pub use Rattle.machine.proofs.Isolated.{others_stay, others_unseen}
pub use Rattle.machine.proofs.Keeps.{run_kept}
pub use Rattle.machine.proofs.SoundRegions.{get_inside}

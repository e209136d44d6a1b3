-- The lemmas that other crates may cite.
pub use Rattle.engine.proofs.FoundTexts.{not_text_from_err}
pub use Rattle.engine.proofs.Gatherings.{found, is_strange, unless_strange}
pub use Rattle.engine.proofs.InTurn.{never_failed}
pub use Rattle.engine.proofs.Known.{given_so}
pub use Rattle.engine.proofs.Limits.{are_limits}
pub use Rattle.engine.proofs.Openings.{fits_on, on_loaded, opens_on}
pub use Rattle.engine.proofs.Quiet.{quiet_on}
pub use Rattle.engine.proofs.Reports.{performed, performs, reports}
pub use Rattle.engine.proofs.SentPieces.{appended, first_broken_off}
pub use Rattle.engine.proofs.Written.{Fits, written}

-- The lemmas that other crates may cite.
pub use Rattle.running.proofs.OneTurn.{own_mode}
pub use Rattle.running.proofs.RunLines.{taken_so}
pub use Rattle.running.proofs.RunsOfLines.{field_are_bytes, grown, left_behind, loaded_is_catalogue, opened_is_catalogue}
pub use Rattle.running.proofs.Turns.{effect_here, has_room, here, updated_follows, whole}
pub use Rattle.running.proofs.UnderLimits.{limit_is_unfelt}

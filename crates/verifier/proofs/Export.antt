-- The lemmas that other crates may cite.
pub use Rattle.verifier.proofs.Broken.{or_parts, unbroken_rules}
pub use Rattle.verifier.proofs.Common.{int_same, same_int}
pub use Rattle.verifier.proofs.Joins.{is_leads, leads_is}
pub use Rattle.verifier.proofs.Kept.{slot_after, stands_here}
pub use Rattle.verifier.proofs.Lists.{get_left}
pub use Rattle.verifier.proofs.MoreMaps.{first_maps}
pub use Rattle.verifier.proofs.PlacesLemmas.{length_le_size, place_here}
pub use Rattle.verifier.proofs.Slots.{behind, read, size_next, stands_in}
pub use Rattle.verifier.proofs.Spilled.{forgotten_is, marks-forgotten, pointer_is, spilled_unmarked, whole_is}
pub use Rattle.verifier.proofs.VerdictLaws.{accepted_iff, accepts}

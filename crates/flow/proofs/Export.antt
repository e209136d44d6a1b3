-- The lemmas that other crates may cite.
pub use Rattle.flow.proofs.Forward.{edge_stands, leads_on, target_stands}
pub use Rattle.flow.proofs.Jumps.{jump_found, jump_tested, slot_is}
pub use Rattle.flow.proofs.Lowest.{broken_from_fault, broken_is_not_structured, fault_iff, no_fault_iff, only_one_broken, stands_within, structured_from_fault}
pub use Rattle.flow.proofs.Positions.{Placed, begins_within, one_or_two, placed, size_next}

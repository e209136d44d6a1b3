-- The lemmas that other crates may cite.
pub use Rattle.oplog.proofs.Laying.{part_at_most, program_at_most, short_part, short_program, within_more}

-- The lemmas that other crates may cite.
pub use Rattle.insn.proofs.Fit.{program_fits}
pub use Rattle.insn.proofs.Laws.{read_is_spelled, spelled_is_read}
pub use Rattle.insn.proofs.Places.{cells_shape, first_of, left_all, left_falls, left_from, next_stands}
pub use Rattle.insn.proofs.Programs.{size_more}
pub use Rattle.insn.proofs.Slots.{FieldsFit, are_bytes, size_is, slot_bytes_length}

-- The fields that an opcode has in use.
pub mod Table

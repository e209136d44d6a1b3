-- The bytes of an instruction, where it is and where it leads, and what is refused first.
pub mod Encoding
pub mod Layout
pub mod Sizes
pub mod Moves
pub mod Opcodes
pub mod Refusal
-- Decoding as one function, which the crates above cite. Two laws prove that it agrees with the definitions above.
pub mod Decoded
-- How an instruction lies in memory. A law says that forms lie there one for one.
pub mod Flat

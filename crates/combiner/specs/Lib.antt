-- Slots, and what post, claim, reply and collect make of a desk.
pub mod Slots
pub mod Desks
-- Slots as they lie in memory.
pub mod Places
-- What loops have done so far.
pub mod Claiming
pub mod Answering

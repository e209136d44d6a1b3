-- The rules that a user of the lock gives, seats and shelves, what each call tells, and what holds between any two atomic steps.
pub mod Rules
pub mod Seats
-- The steps of all sessions, in one order.
pub mod Runs
pub mod Knowledge
pub mod Held
pub mod Between
-- Where the words and the slots stand, and the invariant over words, slots and seats. `Between` says of it what a reader may rely on.
pub mod Words
pub mod Spreading
pub mod Invariant
pub mod Settling

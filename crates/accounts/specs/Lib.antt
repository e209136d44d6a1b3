-- When sessions' notes account for one another and for the history, when a log, a replica or a desk agrees with them, and what a session
-- may say of its answer.
pub mod Values
pub mod Accounts
pub mod Agreement
pub mod Told
-- The changes that are allowed, and the laws that keep all of the above: with desks, and under any rules of a store.
pub mod Moves
pub mod Seen
pub mod StoreRules
pub mod DeskSteps
pub mod LogSteps
pub mod Tellings
pub mod Putting
pub mod Picks
pub mod DeskNotes
pub mod ReadNotes
pub mod Batches

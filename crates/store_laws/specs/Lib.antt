-- What holds between two atomic steps.
pub mod Meanwhile
-- What a whole call does, step by step.
pub mod InOrder
-- What a whole combine does on the shelf.
pub mod OnShelf
-- Calls that begin when others have returned.
pub mod Behind
-- What a session does at its desk, in the words of the schedule.
pub mod AtDesks
-- The run of a store's lock, the events that its sessions make there, and the history that explains them.
pub mod RunEvents
-- The run that a session knows goes on.
pub mod Gone

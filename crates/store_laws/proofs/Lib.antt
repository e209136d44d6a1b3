-- The proof of what holds between two atomic steps.
pub mod Meanwhile
-- Whole calls are steps of the schedule.
pub mod InOrder
-- A combine takes the log once.
pub mod OnShelf
-- Calls that begin when others have returned.
pub mod Behind
-- A desk's steps are the schedule's.
pub mod AtDesks
pub mod Export
-- What holds of the notes and the events.
pub mod Stands
-- A session's call, as others call and as the history grows.
pub mod Calls
-- An event of one session.
pub mod Events
-- A batch is appended, record by record.
pub mod Batches
-- What a session notes.
pub mod Noted
-- Each step keeps it.
pub mod Kept
-- The events of a run, and the history that explains them.
pub mod RunEvents

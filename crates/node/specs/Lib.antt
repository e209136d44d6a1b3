-- To be believed: when a node may take a step, what the step makes of its replica and of the log, and how a batch is answered.
pub mod Following
pub mod Answering
-- The steps of a node as one list.
pub mod Steps
-- What a thread does by a list of them.
pub mod Seen

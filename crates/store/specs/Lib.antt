-- What each answer tells its session, what a store is opened with and gives back.
pub mod Sessions
pub mod Polled
pub mod Opening
pub mod Codes
-- What the store's inner functions speak of.
pub mod Places
pub mod Going
-- Keys, states, and what is looked for without waiting.
pub mod Looks
-- Calls that ask a store what it is.
pub mod Describing
-- The install of a program that may name some maps alone.
pub mod Within
-- What a call adds to the calls of its session, and the list of operations that explains those of all sessions.
pub mod Linear
-- An update that a session asks for and waits for nobody.
pub mod Asking
-- Calls of two sessions, one after the other.
pub mod InOrder
-- The history that explains what the sessions of a closed store did.
pub mod Explained
-- Several sessions of one node that ask for their updates at once.
pub mod Pipelines
-- Several sessions of one node whose calls answer at once.
pub mod PolledPipelines
-- What a list adds, and what a look does not.
pub mod Adding

-- Traces and what explains them, the store as one value, its steps, the trace as read off their answers, and the headline.
pub mod Trace
pub mod Explains
pub mod Worlds
pub mod Steps
pub mod ReadOff
pub mod Headline
-- What holds at each moment.
pub mod Stands
-- Why a step may not be taken.
pub mod Blocking
-- What calls that take a step do.
pub mod Taking
pub mod Codes
-- How nodes lie in memory. No public clause cites this module.
pub mod Rooms

-- What a list of steps answers and writes.
pub mod ScheduleAnswer
-- Laws: what is answered tells a trace, which one list of operations explains.
pub mod Traced
-- The steps between reading and writing.
pub mod Scheduling

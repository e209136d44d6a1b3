-- What operations do.
pub mod Operations
-- What it is that one list of operations explains a trace.
pub mod Linearized
-- Which calls a store takes, and when it has answered all.
pub mod Answered

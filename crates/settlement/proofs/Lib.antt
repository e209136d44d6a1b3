-- A step of a node, at that node and at the others; lists of steps with what holds before each.
pub mod OwnSteps
-- The steps of a node's list, one by one.
pub mod Lines
-- The answers go to their sessions, slot by slot.
pub mod Handing
-- How many steps of the list are taken.
pub mod Few
-- The lists themselves, and those of their steps that are taken.
pub mod NodeLists
pub mod InTurn
-- The list as a whole.
pub mod Settled
-- A batch that is in the log.
pub mod Logged
-- All nodes, and each call of the trace.
pub mod AllNodes
pub mod Answered
-- What calls need.
pub mod OnCalls
pub mod Export

-- what is read of a history
pub mod Reading
-- so many numbers of their own are all numbers
pub mod Counting
-- whether each session makes its calls one after the other
pub mod Turning
-- whether calls stand in the order in which they were made
pub mod Misplaced
-- what the definitions of a history say, in other words
pub mod InOtherWords
-- what is answered to all that was read
pub mod Answered
-- where the calls of a transcript stand
pub mod Standings
-- what the lines of a good transcript tell
pub mod Agreeing
-- one list of their operations
pub mod OneList
-- the trace of the calls
pub mod Events
-- the list explains the trace
pub mod Explaining
-- what is answered `good` is linearizable
pub mod Linearizing

-- What a replay keeps, as one function of the records; and the loop that sets the answers.
pub mod Keeping
pub mod Answers
-- A list of steps, and then another.
pub mod Going
pub mod Export

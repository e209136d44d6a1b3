-- What a replay of a transcript answers and writes.
pub mod ReplayAnswer
-- What is told beside the answer: what a line should tell that differs.
pub mod Noted
-- Laws: each line that a replay finds to agree is what its operation does.
pub mod ReplayLines
-- The steps between reading and writing.
pub mod Replaying

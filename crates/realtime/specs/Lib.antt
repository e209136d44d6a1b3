-- ---- what public clauses cite

-- where the calls of a transcript stand
pub mod Ranks
-- the lines of a history
pub mod Histories
-- whether calls stand in the order in which they were made
pub mod RealTime
-- what is answered to a transcript and its history
pub mod TimedAnswer
-- what these say, in other words
pub mod Laws
-- what a good history of a good transcript shows
pub mod Linearizable
-- ---- what clauses of private functions alone cite

-- what is kept while a history is judged
pub mod Judging

-- What a run of a script answers and writes, and the state that it leaves.
pub mod RunAnswer
pub mod Signed
pub mod KeptRun
-- A run of calls with values.
pub mod CalledRun
-- Laws: each line that a run writes for a call is a run of its program.
pub mod RunLines
-- Laws: what a run writes, from the bytes that it reads to its lines.
pub mod RunLaw
-- Laws: where it doesn't matter how many updates a history may have.
pub mod LimitLaws
-- Laws: a run that is cut in two, where the second part begins on the state that the first left.
pub mod CutLaws
-- Laws: the reply that a line tells, beside which a signed number may stand.
pub mod SignedLaws
-- The steps between reading and writing.
pub mod Running

-- What a line of a script, of a list of steps or of a transcript says.
pub mod Script
pub mod StepLine
pub mod Transcript
-- Laws: a line of a script, of a list of steps or of a transcript says just what it spells.
pub mod LineSpelling
-- Laws: what the script that `encode` writes means.
pub mod EncodedCalls
-- The steps between reading and writing.
pub mod ScriptShown

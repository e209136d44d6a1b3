-- What `check`, `explain`, `asm`, `dis`, `encode` and `decode` answer.
pub mod MapsAnswer
pub mod CheckAnswer
pub mod FindAnswer
pub mod AssemblyAnswer
pub mod DecodeAnswer
-- Laws: the columns of `dis --slots` are all that it adds; what `check` writes.
pub mod Columns
pub mod CheckLaw

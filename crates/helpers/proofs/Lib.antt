pub mod Numbered
pub mod Places
pub mod Answers
pub mod Kept
pub mod Sequence
pub mod MapChanges
pub mod Export

-- Calls and operations, what a history of them means, whose record each is, the sizes of a store, and the log.
pub mod Calls
pub mod Operations
pub mod Lent
pub mod History
pub mod Sessions
pub mod Limits
pub mod Logs
pub mod CopyAnswers
-- How models tell the values of the log apart and read their fields.
pub mod Codes
pub mod Fields
pub mod Lists
pub mod Long
pub mod Laid

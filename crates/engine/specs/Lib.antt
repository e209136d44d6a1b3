-- What a command reads, what it writes of what it makes, how it ends, and what was written where a read or a write fails.
pub mod Files
pub mod Memory
pub mod ReadFaults
pub mod Reading
pub mod Texts
pub mod Status
pub mod Answer
pub mod Sizes
pub mod StateAnswer
pub mod Opening
pub mod Notes
pub mod Report
pub mod Parted
pub mod Engine
pub mod Written
pub mod Transfer
-- The steps between reading and writing.
pub mod Unread

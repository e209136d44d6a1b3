-- Where a key stands, for each call.
pub mod Places
-- The index as a tree, and the way through it.
pub mod Indexes
pub mod Walks

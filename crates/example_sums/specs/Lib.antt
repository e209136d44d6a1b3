-- Two small kinds of value.
pub mod Sums
-- Laws: they meet the rules of the lock.
pub mod Laws

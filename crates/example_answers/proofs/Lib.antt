pub mod Counting
pub mod Opening
pub mod Checked
pub mod Script
pub mod Ran
pub mod OnPage

pub mod Told
pub mod Export

pub mod Lines
pub mod Tokens

pub mod Called
pub mod Places
pub mod Two
pub mod Reading

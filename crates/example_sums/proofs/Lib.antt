pub mod Totals
pub mod Puts
pub mod Taken
pub mod Listed

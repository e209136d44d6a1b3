-- To be believed: what two sessions heard, and that one list of operations explains it.
pub mod Heard

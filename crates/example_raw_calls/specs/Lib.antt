-- What two sessions heard, by the calls that C has.
pub mod Raw

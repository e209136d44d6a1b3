pub mod StepLines
pub mod Told

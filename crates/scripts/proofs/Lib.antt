pub mod Fields
pub mod SpelledScripts
pub mod SpelledSteps
pub mod SpelledTold
pub mod EncodedMeanings
pub mod Export

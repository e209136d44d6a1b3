pub mod Replays
pub mod TranscriptLines
pub mod ReplaysOfLines
pub mod Export

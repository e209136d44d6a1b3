mod Script
pub mod Digits
pub mod Ready
pub mod Standing
pub mod EachCall
mod Ranks
mod Told
pub mod Dealt
pub mod Asked
pub mod Sizes
pub mod Numbered
pub mod Steady
pub mod OneHistory
pub mod Transcripts
pub mod Turns
pub mod EachTeam
pub mod RoundMore
pub mod Places
pub mod Agreeing
mod Programs
mod Printed
mod Fit
mod Replies
mod ReadBack
mod GoodLines
mod Good
pub mod Found

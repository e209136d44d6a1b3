-- What an operation of a catalogue means, which calls are refused early, a replica as its users see it, and which outcomes are kept.
pub mod StoreMeaning
pub mod Refusals
pub mod Views
pub mod Replaying
pub mod Grounds
-- Laws: in every history each operation has an effect.
pub mod HistoryLaws

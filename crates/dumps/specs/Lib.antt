-- What a line of a dump says, the state that its lines make, and what is wrong with a line.
pub mod Grammar
pub mod Loading
pub mod Refusal
-- A state as text, that states and texts are one for one, and which text says none.
pub mod Dumping
pub mod Laws
-- Laws: a dump is loaded where a manifest has more.
pub mod WiderLaws
pub mod FirstBad
-- What is kept of the lines before the one that is read, and the text map by map. No public clause cites these.
pub mod Shown
pub mod Written
pub mod Pieces
pub mod Codes

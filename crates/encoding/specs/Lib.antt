-- What a text of calls says, and where it is refused.
pub mod Words
pub mod Values
pub mod Faults
pub mod Encoded
-- And a state whose entries are written as values, by a layout.
pub mod Layouts
pub mod Decoded
-- Laws: what numbers and their bytes are to one another, and what a line of the script says.
pub mod Laws
pub mod Calls
pub mod DecodeLaws
-- The steps between reading and writing.
pub mod Shown
pub mod DecodeShown

-- Texts put together, and the lines of a listing.
pub mod Pieces
pub mod Reasons
pub mod Texts
pub mod Assembly
pub mod MapLines
pub mod Judged
pub mod Manifests
pub mod Graphs
pub mod FirstFault
pub mod Export
pub mod Lines
pub mod Slots

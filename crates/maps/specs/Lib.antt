-- The shapes that maps may have, finite maps, their places, the numbers and pointers of the machine, and what a scan gives.
pub mod Shapes
pub mod Maps
pub mod Values
pub mod MapSets
pub mod LentValue
pub mod Scans
-- Maps as blocks of bytes, and a part of a block that is lent.
pub mod Blocks
pub mod Lent

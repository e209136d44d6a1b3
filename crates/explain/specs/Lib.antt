-- What is told of a program, of refused assembler text and of a manifest, as far as its words are defined.
pub mod Told
pub mod Words
pub mod Slots
pub mod Listing
pub mod Study
pub mod Assembly
pub mod Manifest
pub mod Graph
pub mod FirstFault
pub mod Explanation

pub mod SlotLines
pub mod Uncolumned
pub mod MapLines
pub mod Checked
pub mod Graphs
pub mod Strangers

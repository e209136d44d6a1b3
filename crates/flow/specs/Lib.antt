-- The rules of structure, and the first that is broken.
pub mod Structure
-- The rules of structure as a function, which the verifier cites. Laws prove that it agrees with the rules above.
pub mod Faults
-- Sets of slots, which the code keeps.
pub mod SlotSets

-- How the open calls of a node, and of all nodes, are answered by their own steps.
pub mod Settling
-- What a node's own steps do while other nodes go on.
pub mod Others

-- The effects of the functions are runs of the relations.
pub mod Effects
-- What explains a trace by the functions explains it by the relations.
pub mod Explained
-- A call that is due is taken, and calls are answered where the last steps settle.
pub mod Due
pub mod Export

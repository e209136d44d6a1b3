-- The lines, fields, names, numbers and digits of a text.
pub mod Lines
pub mod Fields
pub mod Words
pub mod Digits

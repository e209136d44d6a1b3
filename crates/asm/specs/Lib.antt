-- The canonical text of a program, and the numbers of refusals.
pub mod Text
pub mod Refusal
-- How a text is read, rule by rule: what `assemble` promises. That these are the intended rules is shown by the rows of
-- tests/rows, and that they read the canonical text back by the law.
pub mod Words
pub mod Tokens
pub mod Operands
pub mod Labels
pub mod Forms
pub mod Assembled
-- Where a refused line is wrong.
pub mod Places
pub mod Unlabelled
-- Laws: what text and programs are to one another.
pub mod Laws

-- To be believed: the texts of the examples, what the commands answer to them, and what then stands on a page.
pub mod Five
pub mod Counter
pub mod Pages

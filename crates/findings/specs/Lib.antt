-- What is wrong with a manifest and its programs, and the JSON object of each.
pub mod Findings
pub mod Objects
-- What is known of the lines above. Clauses of private functions alone cite this.
pub mod Search

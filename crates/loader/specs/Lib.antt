-- The lines of a manifest and what each means, what a program file spells, what a catalogue is and a manifest offers, and the numbers of
-- refusals.
pub mod Grammar
pub mod NamedFiles
pub mod CatalogueView
pub mod ProgramFiles
pub mod Offers
pub mod Refusal
-- Programs that are installed while a store runs.
pub mod Installed
-- What operations change.
pub mod StoreState
pub mod Codes
-- Loading as functions, line by line, which the crates above cite. Laws prove that they agree with the definitions above.
pub mod Loading
pub mod Spelling
pub mod Wider
-- What is kept of the lines before the one that is read.
pub mod LineShown
pub mod PartialView
pub mod Numbering
pub mod Fields

pub mod Candidates
pub mod KeptNames
pub mod Merging
pub mod NameEntries
pub mod NameLaws
pub mod NameSearches
pub mod ReservedWords

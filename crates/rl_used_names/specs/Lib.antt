pub mod Apart
pub mod Candidates
pub mod Choosing
pub mod IdentifierNames
pub mod Merged
pub mod NameSearch
pub mod ReservedSlots
pub mod UsedName

pub mod Steadiness
pub mod Orderliness
pub mod Itemising
pub mod Defaulting
pub mod Gathering
pub mod Using
pub mod Repeating
pub mod Whole

mod AllForms
mod Counts
pub mod KeptOn
mod Found
mod Together

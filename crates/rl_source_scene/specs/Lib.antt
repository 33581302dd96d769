pub mod Elements
pub mod Entities

pub mod Entities
pub mod ListLaws
pub mod Rows
pub mod Spelled

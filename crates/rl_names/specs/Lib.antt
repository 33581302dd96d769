pub mod Functions
pub mod Locals
pub mod Names
pub mod Plain
pub mod Seen

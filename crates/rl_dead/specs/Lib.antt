pub mod Jumps
pub mod Ranges
pub mod Parts
pub mod Walks
pub mod Functions

pub mod Progress
pub mod Shared
pub mod Values
pub mod Variables

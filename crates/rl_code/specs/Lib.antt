pub mod Codes
pub mod Parts
pub mod Roles
pub mod Heads
pub mod Flags
